-- What a sweep leaves of a table: the marked objects alone, in the regions in which one is left.
use Rattle.std.specs.Prelude.{◌≡◌, ℕ, ◌&&◌, not, Bool, List, filter, length, map, nat_eq, None, if◌then◌else◌}
use Rattle.std.specs.List.{sum_by}
use Rattle.bal_cards.specs.Cards.{Cards}
use Rattle.bal_layout.specs.Addresses.{address_in}
use Rattle.bal_layout.specs.Regions.{all_regions, freed, is_in, is_object, region_at, region_of_card}
use Rattle.bal_layout.specs.Shape.{Shape}
use Rattle.bal_layout.specs.declared.region_state.RegionState.{RegionState}
use Rattle.bal_region.specs.Changes.{empty_land}
use Rattle.bal_region.specs.Land.{Land, size_at}
use Rattle.bal_rules.specs.MarkEvents.{is_current}
use Rattle.bal_table.specs.Changes.{with_estimate, with_land}
use Rattle.bal_table.specs.Table.{Table, land_at, role_at, things_of}

-- One region.

-- just the marked objects of a region are left
abbrev pub left_in : Shape → List ℕ → ℕ → Land → Land
left_in s marked q l = record l { starts = filter (λ at. is_in (address_in s q at) marked) l.starts }

abbrev pub left_at : List ℕ → Table → ℕ → Land
left_at marked t q = left_in t.shape marked q (land_at t q)

-- the words that the objects of a region take
abbrev pub words_of : Land → ℕ
words_of l = sum_by (size_at l.words) l.starts

-- a table once a region was swept: what is left there is thought to be alive
abbrev pub with_swept : List ℕ → Table → ℕ → Table
with_swept marked t q = with_estimate (with_land t q (left_at marked t q)) q (words_of (left_at marked t q))

-- All regions.

-- the state of a region whose objects were swept
abbrev pub state_after : List ℕ → Table → ℕ → RegionState
state_after marked t q =
    let r = region_at t.regions q in record r { estimate = if is_object r.role then words_of (left_at marked t q) else r.estimate }

abbrev pub is_bare : Land → Bool
is_bare l = nat_eq (length l.starts) 0

-- a region of objects, other than the current one, in which none starts
abbrev pub is_vacant : Table → ℕ → Bool
is_vacant t q = is_object (role_at t q) && is_bare (land_at t q) && not (is_current t.current q)

-- such a region once it was swept: no marked object starts there
abbrev pub is_deserted : List ℕ → Table → ℕ → Bool
is_deserted marked t q = is_object (role_at t q) && is_bare (left_at marked t q) && not (is_current t.current q)

abbrev pub deserted : List ℕ → Table → List ℕ
deserted marked t = filter (is_deserted marked t) (all_regions t.regions)

-- the words of a region: where an object is left in it they stay, and a deserted one is empty
abbrev pub land_after : List ℕ → Table → ℕ → Land
land_after marked t q = if is_deserted marked t q then empty_land q t.shape.words else left_at marked t q

-- the marked objects alone are left, where they were and as they were. The deserted regions are free, and of each other one
-- just the marked objects are thought to be alive
pub record IsSwept (marked : List ℕ) (before after : Table) : Type 0 where
  pub shape : after.shape ≡ before.shape
  pub current : after.current ≡ before.current
  pub lands : after.lands ≡ map (land_after marked before) (all_regions before.regions)
  pub regions : after.regions ≡ freed before.shape (deserted marked before) (map (state_after marked before) (all_regions before.regions))
  pub objects : (a : ℕ) → things_of after a ≡ (if is_in a marked then things_of before a else None)

-- the cards once these regions were freed: none of theirs is dirty
abbrev pub without_regions : List ℕ → Cards → Cards
without_regions qs c = record c {
  list = filter (λ card. not (is_in (region_of_card c.shape card) qs)) c.list;
  mark = filter (λ card. not (is_in (region_of_card c.shape card) qs)) c.mark;
}
