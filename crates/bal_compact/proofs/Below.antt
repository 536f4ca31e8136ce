-- Where objects are while those below an address have moved, and what they take.
use Rattle.std.proofs.Common.{◌≡◌, ℕ, ◌+◌, ◌<◌, ◌≤◌, inl, inr, cond, List, length, refl, ap, sym, subst, ◌∙◌, arith, Some}
use Rattle.std.specs.Prelude.{IsSome, is_some}
use Rattle.std.proofs.lemmas.Bool.{cases_lt, cases_order, le-ltb, lt-ltb}
use Rattle.bal_compact.specs.Packing.{IsMovedTo, to_below}
use Rattle.bal_layout.specs.Addresses.{offset_of, region_of}
use Rattle.bal_layout.specs.Shape.{Shape}
use Rattle.bal_plan.specs.Plan.{IsObject, words_at, words_of_thing}
use Rattle.bal_plan.proofs.Lemmas.{read-words}
use Rattle.bal_region.proofs.Lemmas.{object-starts}
use Rattle.bal_table.specs.Table.{IsTable, Table, land_at, objects_of, things_of}
use Rattle.bal_table.proofs.Lemmas.{address-is, object-region, start-address}
use Rattle.bal_words.specs.Moved.{Redirected}
use Rattle.bal_words.proofs.Lemmas.{there}

pub below-moved : (to : ℕ → ℕ) (at a : ℕ) → a < at → to_below to at a ≡ to a
below-moved to at a less = ap (λ b. cond b (to a) a) (lt-ltb a at less)

pub below-left : (to : ℕ → ℕ) (at a : ℕ) → at ≤ a → to_below to at a ≡ a
below-left to at a from = ap (λ b. cond b (to a) a) (le-ltb a at from)

-- one more has moved
pub redirected : (to : ℕ → ℕ) (from : ℕ) → Redirected (to_below to from) (to_below to (from + 1)) from (to from)
redirected to from = record {
  here = below-moved to (from + 1) from (omega arith);
  elsewhere = λ b other. elim (cases_order b from) [
    | inl same ↦ absurd (other same)
    | inr apart ↦ elim apart [
      | inl less ↦ below-moved to (from + 1) b (omega (arith, less)) ∙ sym (below-moved to from b less)
      | inr more ↦ below-left to (from + 1) b (omega (arith, more)) ∙ sym (below-left to from b (omega (arith, more)))
    ]
  ];
}

-- where words of an object start, it is one
pub object-there : (t : Table) (b : ℕ) (words : List ℕ) → IsTable t → objects_of t b ≡ Some words → IsObject t b
object-there t b words table is =
    let r = region_of t.shape b in
    let starts = (object-starts (land_at t r) (offset_of t.shape b) words is).0 in
    subst (IsObject t) (address-is t.shape b) (start-address t r (offset_of t.shape b) table (object-region t b words table is) starts)

module _ (before now : Table) (to : ℕ → ℕ) (q at : ℕ) (m : IsMovedTo before now to q at) where
  -- both tables have one shape
  pub same-region : (a : ℕ) → region_of now.shape a ≡ region_of before.shape a
  same-region a = ap (λ (s : Shape). region_of s a) m.shape

  -- each object has the words that it had
  pub size-now : (a b : ℕ) (words : List ℕ) → IsObject before a → things_of now b ≡ things_of before a → objects_of now b ≡ Some words → length words ≡ words_at before a
  size-now a b words object same stands =
      read-words now b words m.table (ap is_some same ∙ object) stands
      ∙ (ap (words_of_thing now.shape.words) same ∙ ap (λ (s : Shape). words_of_thing s.words (things_of before a)) m.shape)

  -- those that have moved are where they went
  pub moved-there : (a : ℕ) → IsObject before a → a < at → things_of now (to a) ≡ things_of before a
  moved-there a object less =
      let x = there (things_of before a) object in
      ap (λ b. things_of now b) (sym (below-moved to at a less)) ∙ (m.carried.carried a x.0 x.1 refl ∙ sym x.1)

  -- those that have not moved are there still
  pub unmoved : (a : ℕ) → at ≤ a → IsObject before a → things_of now a ≡ things_of before a
  unmoved a from object =
      let x = there (things_of before a) object in
      subst (λ b. things_of now b ≡ Some x.0) (below-left to at a from) (m.carried.carried a x.0 x.1 refl) ∙ sym x.1

  -- and all that is there was there before, as those that have moved are below
  pub object-before : (a : ℕ) → at ≤ a → IsSome (things_of now a) → IsObject before a
  object-before a from some =
      let x = there (things_of now a) some in
      let b = m.carried.only a x.0 x.1 in
      let object : IsObject before b.0 = ap is_some b.1 in
      elim (cases_lt b.0 at) [
        | inl moved ↦ absurd (omega (arith, moved, from, m.may.plan.down b.0 object, sym (below-moved to at b.0 moved) ∙ b.3))
        | inr left ↦ subst (IsObject before) (sym (below-left to at b.0 left) ∙ b.3) object
      ]
