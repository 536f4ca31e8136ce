-- A table of which one object is moved down in its region.
use Rattle.std.proofs.Common.{◌≡◌, ℕ, ◌+◌, ◌*◌, ◌<◌, ◌≤◌, ◌⊎◌, inl, inr, true, List, length, Some, None, refl, ap, sym, subst, ◌∙◌, arith, get_or-set_other, get_or-set_same}
use Rattle.std.specs.Prelude.{option_and_then}
use Rattle.bal_layout.specs.Addresses.{address_in, offset_of, region_of}
use Rattle.bal_layout.specs.Regions.{region_at}
use Rattle.bal_layout.specs.Shape.{Shape}
use Rattle.bal_layout.specs.declared.region_state.RegionState.{RegionState}
use Rattle.bal_words.specs.Moved.{Relocated}
use Rattle.bal_words.proofs.Lemmas.{same-or}
use Rattle.bal_region.specs.Changes.{MaySlide, empty_land, with_slid}
use Rattle.bal_region.specs.Land.{IsLand, Land, header_at, object_at, object_in, size_at, starts_at}
use Rattle.bal_region.proofs.Lemmas.{IsLand-slid, header-moved, length-slid, object-beside, object-free, object-here, object-left, object-starts, object-there, size-seen, start-slid}
use Rattle.bal_table.specs.Changes.{MayMoveDown, with_slid_object}
use Rattle.bal_table.specs.Table.{IsRegion, IsTable, Table, land_at, objects_of, thing_in, things_of}
use Rattle.bal_table.proofs.Lifted.{objects-beside, objects-there, things-same}
use Rattle.bal_table.proofs.Places.{address-is, address-region, same-address}
use Rattle.bal_table.proofs.Seen.{object-region, objects-at, start-inside}
use Rattle.bal_table.proofs.Tables.{IsTable-land}

-- its region
IsRegion-slid : (s : Shape) (q : ℕ) (r : RegionState) (l : Land) (from to : ℕ) → IsRegion s q r l → MaySlide l from to → IsRegion s q r (with_slid l from to)
IsRegion-slid s q r l from to region may = record {
  land = IsLand-slid l from to region.land may;
  number = region.number;
  words = length-slid l from to region.land may ∙ region.words;
  role = region.role;
  used = region.used;
  estimate = region.estimate;
  empty = region.empty;
  free = region.free;
  pieces = λ at h starts is. elim (start-slid l from to region.land may at starts) [
    | inl here ↦ region.pieces from h may.start (header-moved l from to region.land may ∙ (ap (header_at (with_slid l from to).words) (sym here) ∙ is))
    | inr other ↦ region.pieces at h other.1 (sym other.2 ∙ is)
  ];
}

module _ (t : Table) (from to : ℕ) (table : IsTable t) (may : MayMoveDown t from to) where
  abbrev q : ℕ
  q = region_of t.shape from

  abbrev l : Land
  l = land_at t q

  abbrev m : Land
  m = with_slid l (offset_of t.shape from) (offset_of t.shape to)

  within : q < t.shape.regions
  within = object-region t from (object_in l.words (offset_of t.shape from)) table (object-there l (offset_of t.shape from) may.slide.start)

  inside : q < length t.lands
  inside = omega (arith, within, table.lands)

  land : IsLand l
  land = (table.each q within).land

  pub IsTable-slid : IsTable (with_slid_object t from to)
  IsTable-slid = IsTable-land t q m table within
      (IsRegion-slid t.shape q (region_at t.regions q) l (offset_of t.shape from) (offset_of t.shape to) (table.each q within) may.slide)

  -- it starts with its words at its new place
  pub words-slid : objects_of (with_slid_object t from to) to ≡ objects_of t from
  words-slid = objects-there t q m to inside may.region ∙ object-here l (offset_of t.shape from) (offset_of t.shape to) land may.slide

  words-left : (to ≡ from → ⊥) → objects_of (with_slid_object t from to) from ≡ None
  words-left other = objects-there t q m from inside refl
      ∙ object-left l (offset_of t.shape from) (offset_of t.shape to) land may.slide (λ e. other (same-address t.shape to from may.region e))

  words-beside : (b : ℕ) → (b ≡ from → ⊥) → (b ≡ to → ⊥) → objects_of (with_slid_object t from to) b ≡ objects_of t b
  words-beside b not_from not_to = elim (same-or (region_of t.shape b) q) [
    | inl here ↦ objects-there t q m b inside here
        ∙ (object-beside l (offset_of t.shape from) (offset_of t.shape to) land may.slide (offset_of t.shape b)
        (λ e. not_from (same-address t.shape b from here e)) (λ e. not_to (same-address t.shape b to (here ∙ sym may.region) e))
        ∙ ap (λ r. object_at (land_at t r) (offset_of t.shape b)) (sym here))
    | inr other ↦ objects-beside t q m b other
  ]

  -- and nothing else is changed
  pub thing-slid : Relocated (things_of t) (things_of (with_slid_object t from to)) from to
  thing-slid = record {
    here = ap (option_and_then thing_in) words-slid;
    gone = λ other. ap (option_and_then thing_in) (words-left other);
    elsewhere = λ b not_from not_to. things-same t (with_slid_object t from to) b (words-beside b not_from not_to);
  }

  -- each region gives out what it did
  pub used-slid : (p : ℕ) → (land_at (with_slid_object t from to) p).used ≡ (land_at t p).used
  used-slid p = elim (same-or p q) [
    | inl same ↦ subst (λ n. (land_at (with_slid_object t from to) n).used ≡ (land_at t n).used) (sym same)
        (ap (λ (l : Land). l.used) (get_or-set_same t.lands q m (empty_land 0 0) inside))
    | inr other ↦ ap (λ (l : Land). l.used) (get_or-set_other t.lands q p m (empty_land 0 0) other)
  ]

  -- before, no other started there
  pub slid-free : (things_of t to ≡ None) ⊎ (to ≡ from)
  slid-free = elim (object-free l (offset_of t.shape from) (offset_of t.shape to) land may.slide) [
    | inl none ↦ inl (ap (λ r. option_and_then thing_in (object_at (land_at t r) (offset_of t.shape to))) may.region ∙ ap (option_and_then thing_in) none)
    | inr same ↦ inr (same-address t.shape to from may.region same)
  ]

-- an object may be moved down over words that no other object has
pub may-move : (t : Table) (from to : ℕ) (object : List ℕ) → IsTable t → objects_of t from ≡ Some object → region_of t.shape to ≡ region_of t.shape from → to ≤ from
    → ((b : ℕ) (other : List ℕ) → objects_of t b ≡ Some other → region_of t.shape b ≡ region_of t.shape from → b < from → b + length other ≤ to)
    → MayMoveDown t from to
may-move t from to object table is same down clear = record {
  region = same;
  slide = record {
    start = (object-starts (land_at t (region_of t.shape from)) (offset_of t.shape from) object is).0;
    down = omega (arith, down, address-is t.shape from, address-is t.shape to, ap (λ r. r * t.shape.words) same);
    clear = before;
  };
}
  where
    within : region_of t.shape from < t.shape.regions
    within = object-region t from object table is

    before : (s : ℕ) → starts_at (land_at t (region_of t.shape from)) s ≡ true → s < offset_of t.shape from
        → s + size_at (land_at t (region_of t.shape from)).words s ≤ offset_of t.shape to
    before s starts less =
        let r = region_of t.shape from in
        let inside = start-inside t r s table within starts in
        let seen = objects-at t r s inside ∙ object-there (land_at t r) s starts in
        let size = size-seen (land_at t r) s (table.each r within).land (object_in (land_at t r).words s) (object-there (land_at t r) s starts) in
        let ends = clear (address_in t.shape r s) (object_in (land_at t r).words s) seen (address-region t.shape r s inside) (omega (arith, less, address-is t.shape from)) in
        omega (arith, size, ends, address-is t.shape to, ap (λ p. p * t.shape.words) same)
