-- Which slots were visited, from region to region and from object to object.
use Rattle.std.proofs.Common.{◌≡◌, ℕ, ◌+◌, ◌<◌, ◌≤◌, ◌⊎◌, inl, inr, Some, None, length, ap, sym, subst, ◌∙◌, arith}
use Rattle.std.specs.Prelude.{IsTrue}
use Rattle.std.proofs.lemmas.Bool.{cases_lt}
use Rattle.bal_layout.specs.Addresses.{address_in, offset_of, region_of}
use Rattle.bal_region.specs.Land.{first_from, starts_at}
use Rattle.bal_region.proofs.Lemmas.{first-is, first-none, object-starts}
use Rattle.bal_table.specs.Slots.{IsSlot}
use Rattle.bal_table.specs.Table.{IsTable, Table, land_at, refs_in, things_of}
use Rattle.bal_table.proofs.Places.{address-is, address-offset, address-region}
use Rattle.bal_table.proofs.Seen.{object-region, start-inside}
use Rattle.bal_table.proofs.SlotPlaces.{slot-thing}

-- a slot of the object at an address is one of its references
pub slot-below : (t : Table) (a i p : ℕ) → IsTable t → IsSlot t a i p → i < length (refs_in (things_of t a))
slot-below t a i p table slot =
    let x = slot-thing t a i p table slot in
    subst (λ o. i < length (refs_in o)) (sym x.1.0) x.1.1

-- its object lies in one of the regions
pub slot-within : (t : Table) (a i p : ℕ) → IsTable t → IsSlot t a i p → region_of t.shape a < t.shape.regions
slot-within t a i p table slot = object-region t a slot.object table slot.is

-- and starts there
starts-there : (t : Table) (q a i p : ℕ) → IsSlot t a i p → region_of t.shape a ≡ q → IsTrue (starts_at (land_at t q) (offset_of t.shape a))
starts-there t q a i p slot is =
    subst (λ r. IsTrue (starts_at (land_at t r) (offset_of t.shape a))) is (object-starts (land_at t (region_of t.shape a)) (offset_of t.shape a) slot.object slot.is).0

-- those whose objects start in a region before an offset
abbrev pub Before : Table → ℕ → ℕ → ℕ → ℕ → Type 0
Before t q from holder number = (region_of t.shape holder ≡ q) × (offset_of t.shape holder < from)

module _ (t : Table) (q from : ℕ) (table : IsTable t) (within : q < t.shape.regions) where
  -- the next object of the region is this
  module _ (offset : ℕ) (next : first_from (land_at t q) from ≡ Some offset) (starts : IsTrue (starts_at (land_at t q) offset)) where
    pub next-inside : offset < t.shape.words
    next-inside = start-inside t q offset table within starts

    -- it comes after those before
    pub next-after : (a i : ℕ) → from ≤ offset → Before t q from a i → Before t q (offset + 1) a i
    next-after a i behind before = (before.0, omega (arith, before.1, behind))

    pub next-here : (a i : ℕ) → a ≡ address_in t.shape q offset → Before t q (offset + 1) a i
    next-here a i here = (
      ap (region_of t.shape) here ∙ address-region t.shape q offset next-inside,
      omega (arith, ap (offset_of t.shape) here ∙ address-offset t.shape q offset next-inside),
    )

    -- and none is between
    pub next-first : (a i p : ℕ) → IsSlot t a i p → Before t q (offset + 1) a i → Before t q from a i ⊎ (a ≡ address_in t.shape q offset)
    next-first a i p slot before = elim (cases_lt (offset_of t.shape a) from) [
      | inl less ↦ inl (before.0, less)
      | inr more ↦
          let least = ((first-is (land_at t q) from offset (table.each q within).land).0 next).2 (offset_of t.shape a) (starts-there t q a i p slot before.0) more in
          let same : offset_of t.shape a ≡ offset = omega (arith, least, before.1) in
          inr (sym (address-is t.shape a) ∙ (ap (λ r. address_in t.shape r (offset_of t.shape a)) before.0 ∙ ap (address_in t.shape q) same))
    ]

  -- there is no further object in the region
  pub none-after : first_from (land_at t q) from ≡ None → (a i p : ℕ) → IsSlot t a i p → region_of t.shape a ≡ q → Before t q from a i
  none-after none a i p slot is = (is, first-none (land_at t q) from (offset_of t.shape a) none (starts-there t q a i p slot is))
