-- In the regions of a table no more objects start than there are addresses at which one does.
use Rattle.std.proofs.Common.{◌≡◌, ℕ, zero, suc, ◌+◌, ◌*◌, ◌<◌, ◌≤◌, inl, inr, true, List, [], ◌∷◌, ◌++◌, length, filter, map, take, ap, subst, sym, ◌∙◌, arith, length-append, take_all}
use Rattle.std.specs.Prelude.{is_some}
use Rattle.std.specs.List.{range_with_len, sum_by}
use Rattle.std.proofs.Math.Nat.{suc-mul}
use Rattle.std.proofs.lemmas.Bool.{false≢true}
use Rattle.std.proofs.lemmas.List.{length-map}
use Rattle.std.proofs.lemmas.List.Sums.{sum_by_more}
use Rattle.bal_base.specs.Bits.{IsAscending}
use Rattle.bal_base.proofs.Lemmas.{among-cases, among-first, among-later}
use Rattle.bal_layout.specs.Addresses.{address_in}
use Rattle.bal_layout.specs.Regions.{is_in}
use Rattle.bal_plan.specs.Plan.{starts_of}
use Rattle.bal_region.specs.Changes.{empty_land}
use Rattle.bal_region.specs.Land.{Laid, Land, size_at}
use Rattle.bal_region.proofs.Lemmas.{laid-each, size-two}
use Rattle.bal_sweep.specs.Dead.{object_count}
use Rattle.bal_table.specs.Table.{IsTable, Table, land_at, things_of}
use Rattle.bal_table.proofs.Lemmas.{start-address, start-inside}
use Rattle.bal_global.proofs.Numbers.{few-ascend, filter-parts, range-parts}

-- a member of a mapped list comes from one of the list
in-mapped : (f : ℕ → ℕ) (xs : List ℕ) (k : ℕ) → is_in k (map f xs) ≡ true → (s : ℕ) × ((is_in s xs ≡ true) × (f s ≡ k))
in-mapped f [] k among = absurd (false≢true among)
in-mapped f (x ∷ xs) k among = by (λ later. in-mapped f xs k later)
  where
    by : (is_in k (map f xs) ≡ true → (s : ℕ) × ((is_in s xs ≡ true) × (f s ≡ k))) → (s : ℕ) × ((is_in s (x ∷ xs) ≡ true) × (f s ≡ k))
    by rest = elim (among-cases (f x) k (map f xs) among) [
      | inl here ↦ (x, (among-first x xs, here))
      | inr later ↦ let found = rest later in (found.0, (among-later x found.0 xs found.1.0, found.1.1))
    ]

-- objects that lie one after the other start at addresses that ascend
laid-ascends : (base : ℕ) (words : List ℕ) (from : ℕ) (ss : List ℕ) (end : ℕ) → Laid words from ss end → IsAscending (map (λ s. base + s) ss)
laid-ascends base words from [] end laid = tt
laid-ascends base words from (s ∷ ss) end laid = (
  λ k among.
      let found = in-mapped (λ r. base + r) ss k among in
      omega (arith, found.1.1, (laid-each words (s + size_at words s) ss end found.0 laid.2 found.1.0).0, size-two words s laid.1),
  laid-ascends base words (s + size_at words s) ss end laid.2,
)

module _ (t : Table) (table : IsTable t) where
  abbrev starts : ℕ → ℕ → List ℕ
  starts from n = filter (λ a. is_some (things_of t a)) (range_with_len from n)

  -- those of one region
  region-few : (q : ℕ) → q < t.shape.regions → length (land_at t q).starts ≤ length (starts (q * t.shape.words) t.shape.words)
  region-few q within =
      let l = land_at t q in
      let region = table.each q within in
      let few = few-ascend (λ a. is_some (things_of t a)) (map (address_in t.shape q) l.starts) (q * t.shape.words) t.shape.words
      (laid-ascends (q * t.shape.words) l.words 0 l.starts l.used region.land.laid)
      (λ k among.
      let found = in-mapped (address_in t.shape q) l.starts k among in
      let inside = start-inside t q found.0 table within found.1.0 in
      let some = start-address t q found.0 table within found.1.0 in
      (omega (arith, found.1.1), omega (arith, found.1.1, inside), subst (λ a. is_some (things_of t a) ≡ true) found.1.1 some)) in
      subst (λ n. n ≤ length (starts (q * t.shape.words) t.shape.words)) (length-map l.starts (address_in t.shape q)) few

  -- one region more
  starts-more : (n : ℕ) → starts 0 (suc n * t.shape.words) ≡ starts 0 (n * t.shape.words) ++ starts (n * t.shape.words) t.shape.words
  starts-more n =
      ap (starts 0) (suc-mul n t.shape.words)
      ∙ (ap (filter (λ a. is_some (things_of t a))) (range-parts 0 (n * t.shape.words) t.shape.words ∙ ap (λ a. range_with_len 0 (n * t.shape.words) ++ range_with_len a t.shape.words) (from (n * t.shape.words)))
      ∙ filter-parts (λ a. is_some (things_of t a)) (range_with_len 0 (n * t.shape.words)) (range_with_len (n * t.shape.words) t.shape.words))
    where
      from : (k : ℕ) → 0 + k ≡ k
      from k = omega arith

  front-few : (n : ℕ) → n ≤ t.shape.regions → sum_by (λ (l : Land). length l.starts) (take n t.lands) ≤ length (starts 0 (n * t.shape.words))
  front-few zero within = omega arith
  front-few (suc n) within =
      let rest : sum_by (λ (l : Land). length l.starts) (take n t.lands) ≤ length (starts 0 (n * t.shape.words)) = front-few n (omega (arith, within)) in
      let sum = sum_by_more (λ (l : Land). length l.starts) t.lands n (empty_land 0 0) (omega (arith, within, table.lands)) in
      let one : n + 1 ≡ suc n = omega arith in
      let more = sym (ap (λ k. sum_by (λ (l : Land). length l.starts) (take k t.lands)) one) ∙ sum in
      omega (
        arith,
        rest,
        more,
        region-few n (omega (arith, within)),
        ap (λ (xs : List ℕ). length xs) (starts-more n),
        length-append (starts 0 (n * t.shape.words)) (starts (n * t.shape.words) t.shape.words),
      )

  pub count-few : object_count t ≤ length (starts_of t)
  count-few = subst (λ (ls : List Land). sum_by (λ (l : Land). length l.starts) ls ≤ length (starts_of t))
      (take_all t.shape.regions t.lands (omega (arith, table.lands))) (front-few t.shape.regions (omega arith))
