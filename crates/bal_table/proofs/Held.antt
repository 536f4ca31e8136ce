-- Which object has the word at an address.
use Rattle.std.proofs.Common.{◌≡◌, ℕ, ◌+◌, ◌-◌, ◌<◌, ◌≤◌, ◌⊎◌, inl, inr, List, length, Some, None, ap, sym, subst, ◌∙◌, arith}
use Rattle.std.specs.Prelude.{◌↔◌, IsSome, option_map}
use Rattle.std.proofs.lemmas.Bool.{cases_lt}
use Rattle.std.proofs.lemmas.List.{get_or_past}
use Rattle.std.proofs.lemmas.Option.{none-some}
use Rattle.bal_layout.specs.Addresses.{address_in, offset_of, region_of}
use Rattle.bal_words.proofs.Lemmas.{mapped-from}
use Rattle.bal_region.specs.Changes.{empty_land}
use Rattle.bal_region.specs.Land.{Land, holder_of}
use Rattle.bal_region.proofs.Lemmas.{holder-is, object-seen, object-starts}
use Rattle.bal_table.specs.Table.{IsTable, Table, holder_at, land_at, objects_of, things_of}
use Rattle.bal_table.proofs.Places.{address-is, offset-within}
use Rattle.bal_table.proofs.Seen.{object-region, objects-at, start-address}
use Rattle.bal_table.proofs.SlotWords.{word-held}

-- what starts somewhere is an object
pub object-thing : (t : Table) (a : ℕ) (object : List ℕ) → IsTable t → objects_of t a ≡ Some object → IsSome (things_of t a)
object-thing t a object table is =
    let q = region_of t.shape a in
    let starts = (object-starts (land_at t q) (offset_of t.shape a) object is).0 in
    subst (λ b. IsSome (things_of t b)) (address-is t.shape a) (start-address t q (offset_of t.shape a) table (object-region t a object table is) starts)

-- the object that starts at an address has the word at another
abbrev pub HasWord : Table → ℕ → ℕ → Type 0
HasWord t a p = (object : List ℕ) × ((objects_of t a ≡ Some object) × (a ≤ p) × (p < a + length object))

-- its word is held by it
pub held-by : (t : Table) (a p : ℕ) → IsTable t → HasWord t a p → holder_at t p ≡ Some a
held-by t a p table (object, (is, from, to)) =
    let more : (k : ℕ) × (a + k ≡ p) = (p - a, omega (arith, from)) in
    subst (λ q. holder_at t q ≡ Some a) more.1 (word-held t a more.0 object table is (omega (arith, more.1, to)))

-- where a word has a holder, there is a region
holder-region : (t : Table) (p a : ℕ) → IsTable t → holder_at t p ≡ Some a → region_of t.shape p < t.shape.regions
holder-region t p a table is = elim (cases_lt (region_of t.shape p) t.shape.regions) [
  | inl within ↦ within
  | inr past ↦ absurd (none-some a
      (sym (ap (λ (l : Land). option_map (address_in t.shape (region_of t.shape p)) (holder_of l (offset_of t.shape p)))
      (get_or_past t.lands (region_of t.shape p) (empty_land 0 0) (omega (arith, past, table.lands)))) ∙ is))
]

-- and the holder has it
pub holder-has : (t : Table) (p a : ℕ) → IsTable t → holder_at t p ≡ Some a → HasWord t a p
holder-has t p a table is =
    let q = region_of t.shape p in
    let at = offset_of t.shape p in
    let inside = holder-region t p a table is in
    let region = table.each q inside in
    let found = mapped-from (address_in t.shape q) (holder_of (land_at t q) at) a is in
    let start = found.0 in
    let holds = (holder-is (land_at t q) start at region.land).0 found.1.0 in
    let object = holds.0 in
    let seen = object-seen (land_at t q) start region.land object holds.1.0 in
    let begins : start < t.shape.words = omega (arith, holds.1.1, offset-within t.shape p (omega (arith, table.shape.fewest_words))) in
    let there : objects_of t (address_in t.shape q start) ≡ Some object = objects-at t q start begins ∙ holds.1.0 in (
      object,
      (
        subst (λ b. objects_of t b ≡ Some object) found.1.1 there,
        omega (arith, address-is t.shape p, found.1.1, holds.1.1),
        omega (arith, address-is t.shape p, found.1.1, holds.1.2),
      ),
    )

pub holder-both : (t : Table) (p a : ℕ) → IsTable t → (holder_at t p ≡ Some a) ↔ HasWord t a p
holder-both t p a table = (holder-has t p a table, held-by t a p table)

-- a word without a holder lies before or after each object
pub holder-none : (t : Table) (p a : ℕ) (object : List ℕ) → IsTable t → holder_at t p ≡ None → objects_of t a ≡ Some object → (p < a) ⊎ (a + length object ≤ p)
holder-none t p a object table none is = elim (cases_lt p a) [
  | inl less ↦ inl less
  | inr from ↦ elim (cases_lt p (a + length object)) [
    | inl to ↦ absurd (none-some a (sym none ∙ held-by t a p table (object, (is, from, to))))
    | inr past ↦ inr past
  ]
]
