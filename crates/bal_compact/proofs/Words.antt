-- The words that the objects take which go to a region.
use Rattle.std.proofs.Common.{◌≡◌, ℕ, zero, suc, ◌+◌, ◌-◌, ◌<◌, ◌≤◌, ◌⊎◌, inl, inr, Bool, true, false, List, refl, ap, sym, subst, ◌∙◌, arith}
use Rattle.std.specs.Prelude.{is_some, nat_eq}
use Rattle.std.specs.List.{filter, range_with_len, sum_by}
use Rattle.std.proofs.lemmas.Bool.{false≢true}
use Rattle.std.proofs.lemmas.List.Elements.{filter-append}
use Rattle.std.proofs.lemmas.List.Sums.{sum_by-append}
use Rattle.bal_layout.specs.Addresses.{region_of}
use Rattle.bal_plan.specs.Plan.{IsObject, starts_below, words_at, words_into}
use Rattle.bal_plan.proofs.Lemmas.{into-gap, starts-split, words-next, words-other}
use Rattle.bal_table.specs.Table.{Table, things_of}
use Rattle.bal_words.proofs.Lemmas.{same-or, there}

module _ (t : Table) (to : ℕ → ℕ) where
  -- below a higher address they take no fewer
  pub words-grow : (low high q : ℕ) → low ≤ high → words_into t to low q ≤ words_into t to high q
  words-grow low high q le =
      let goes : ℕ → Bool = λ a. nat_eq (region_of t.shape (to a)) q in
      let more : List ℕ = filter (λ a. is_some (things_of t a)) (range_with_len low (high - low)) in
      omega (
        arith,
        ap (λ (l : List ℕ). sum_by (words_at t) (filter goes l)) (starts-split t low high le),
        ap (sum_by (words_at t)) (filter-append goes (starts_below t low) more),
        sum_by-append (words_at t) (filter goes (starts_below t low)) (filter goes more),
      )

  -- the last object that goes to a region ends behind all words that they take
  pub record IsLastInto (at q : ℕ) : Type 0 where
    pub address : ℕ
    pub object : IsObject t address
    pub below : address < at
    pub there : region_of t.shape (to address) ≡ q
    pub words : words_into t to at q ≡ words_into t to address q + words_at t address

  last-more : (a q : ℕ) → words_into t to (a + 1) q ≡ words_into t to a q → (0 < words_into t to a q → IsLastInto a q) → 0 < words_into t to (a + 1) q → IsLastInto (a + 1) q
  last-more a q same before some =
      let last = before (omega (arith, same, some)) in
      record {
        address = last.address;
        object = last.object;
        below = omega (arith, last.below);
        there = last.there;
        words = same ∙ last.words;
      }

  pub last-into : (at q : ℕ) → 0 < words_into t to at q → IsLastInto at q
  last-into zero q some = absurd (omega (arith, some))
  last-into (suc a) q some =
      let one : a + 1 ≡ suc a = omega arith in
      subst (λ n. IsLastInto n q) one
      (by (last-into a q) (is_some (things_of t a)) refl (same-or (region_of t.shape (to a)) q) (subst (λ n. 0 < words_into t to n q) (sym one) some))
    where
      by : (0 < words_into t to a q → IsLastInto a q) → (b : Bool) → is_some (things_of t a) ≡ b
          → (region_of t.shape (to a) ≡ q) ⊎ (region_of t.shape (to a) ≡ q → ⊥) → 0 < words_into t to (a + 1) q → IsLastInto (a + 1) q
      by before false none either = last-more a q (ap (sum_by (words_at t)) (into-gap t to a (a + 1) q (omega arith) no-object)) before
        where
          no-object : (b : ℕ) → a ≤ b → b < a + 1 → IsObject t b → ⊥
          no-object b low high object =
              let same : a ≡ b = omega (arith, low, high) in
              false≢true (sym (subst (λ n. is_some (things_of t n) ≡ false) same none) ∙ object)
      by before true object (inl there) = λ _. record {
        address = a;
        object = object;
        below = omega arith;
        there = there;
        words = subst (λ r. words_into t to (a + 1) r ≡ words_into t to a r + words_at t a) there (words-next t to a object);
      }
      by before true object (inr other) = last-more a q (words-other t to a q object other) before
