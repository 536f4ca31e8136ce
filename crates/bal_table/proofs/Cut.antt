-- A table of which one region is cut behind its last object.
use Rattle.std.proofs.Common.{◌≡◌, ℕ, ◌+◌, ◌*◌, ◌<◌, ◌≤◌, ◌⊎◌, inl, inr, List, length, Some, refl, ap, sym, ◌∙◌, arith, get_or-set_other, get_or-set_same}
use Rattle.bal_layout.specs.Addresses.{address_in, offset_of, region_of}
use Rattle.bal_layout.specs.Regions.{free_region, region_at}
use Rattle.bal_layout.specs.Shape.{Shape}
use Rattle.bal_layout.specs.declared.region_state.RegionState.{RegionState}
use Rattle.bal_words.proofs.Lemmas.{same-or}
use Rattle.bal_region.specs.Changes.{cut_short, empty_land}
use Rattle.bal_region.specs.Land.{Land, object_at}
use Rattle.bal_region.proofs.Lemmas.{IsLand-cut, cut-last, cut-less, cut-within, object-starts}
use Rattle.bal_table.specs.Changes.{with_cut}
use Rattle.bal_table.specs.Table.{IsRegion, IsTable, Table, estimate_at, land_at, objects_of, things_of}
use Rattle.bal_table.proofs.Lifted.{objects-beside, objects-there, things-same}
use Rattle.bal_table.proofs.Places.{address-is, address-region}
use Rattle.bal_table.proofs.Seen.{objects-at, start-inside}
use Rattle.bal_table.proofs.Tables.{IsTable-both}

-- its region
IsRegion-cut : (s : Shape) (q : ℕ) (r : RegionState) (l : Land) → IsRegion s q r l → r.estimate ≤ (cut_short l).used
    → IsRegion s q (record r { used = (cut_short l).used }) (cut_short l)
IsRegion-cut s q r l region alive = record {
  land = IsLand-cut l region.land;
  number = region.number;
  words = region.words;
  role = region.role;
  used = refl;
  estimate = alive;
  empty = λ none. omega (arith, less, region.used, region.empty none);
  free = λ free.
      let state = region.free free in
      let none : (cut_short l).used ≡ 0 = omega (arith, less, region.used, ap (λ (u : RegionState). u.used) state) in
      ap (λ (u : RegionState). record u { used = (cut_short l).used }) state ∙ ap (λ n. record free_region { used = n }) none;
  pieces = region.pieces;
}
  where
    less : (cut_short l).used ≤ l.used
    less = cut-less l region.land

module _ (t : Table) (q : ℕ) where
  -- its objects, and those of all others, stay
  pub words-cut : (a : ℕ) → IsTable t → q < t.shape.regions → objects_of (with_cut t q) a ≡ objects_of t a
  words-cut a table within = elim (same-or (region_of t.shape a) q) [
    | inl here ↦ objects-there t q (cut_short (land_at t q)) a (omega (arith, within, table.lands)) here
        ∙ ap (λ r. object_at (land_at t r) (offset_of t.shape a)) (sym here)
    | inr other ↦ objects-beside t q (cut_short (land_at t q)) a other
  ]

  pub things-cut : (a : ℕ) → IsTable t → q < t.shape.regions → things_of (with_cut t q) a ≡ things_of t a
  things-cut a table within = things-same t (with_cut t q) a (words-cut a table within)

-- all others give out what they did
pub cut-elsewhere : (t : Table) (q p : ℕ) → (p ≡ q → ⊥) → (land_at (with_cut t q) p).used ≡ (land_at t p).used
cut-elsewhere t q p other = ap (λ (l : Land). l.used) (get_or-set_other t.lands q p (cut_short (land_at t q)) (empty_land 0 0) other)

module _ (t : Table) (q : ℕ) (table : IsTable t) (within : q < t.shape.regions) where
  pub IsTable-cut : estimate_at t q ≤ (cut_short (land_at t q)).used → IsTable (with_cut t q)
  IsTable-cut alive =
      let r = region_at t.regions q in
      IsTable-both t q (cut_short (land_at t q)) (record r { used = (cut_short (land_at t q)).used }) table within
      (IsRegion-cut t.shape q r (land_at t q) (table.each q within) alive) (λ is. (table.current q is).1)

  -- what is given out now
  here : (land_at (with_cut t q) q).used ≡ (cut_short (land_at t q)).used
  here = ap (λ (l : Land). l.used) (get_or-set_same t.lands q (cut_short (land_at t q)) (empty_land 0 0) (omega (arith, within, table.lands)))

  -- all objects of the region end in that
  pub cut-behind : (a : ℕ) (object : List ℕ) → objects_of t a ≡ Some object → region_of t.shape a ≡ q
      → a + length object ≤ address_in t.shape q (land_at (with_cut t q) q).used
  cut-behind a object is own =
      let ends = cut-within (land_at t q) (table.each q within).land (offset_of t.shape a) object (ap (λ r. object_at (land_at t r) (offset_of t.shape a)) (sym own) ∙ is) in
      omega (arith, ends, here, address-is t.shape a, ap (λ r. r * t.shape.words) own)

  -- and one ends with it
  pub cut-at : ((land_at (with_cut t q) q).used ≡ 0)
      ⊎ ((a : ℕ) × (object : List ℕ) × (objects_of t a ≡ Some object) × (region_of t.shape a ≡ q) × (a + length object ≡ address_in t.shape q (land_at (with_cut t q) q).used))
  cut-at = elim (cut-last (land_at t q) (table.each q within).land) [
    | inl none ↦ inl (here ∙ none)
    | inr found ↦
        let inside = start-inside t q found.0 table within (object-starts (land_at t q) found.0 found.1 found.2).0 in
        inr (
          address_in t.shape q found.0,
          found.1,
          objects-at t q found.0 inside ∙ found.2,
          address-region t.shape q found.0 inside,
          omega (arith, here, found.3),
        )
  ]
