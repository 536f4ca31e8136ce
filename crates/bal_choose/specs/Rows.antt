-- The rows of a heap's regions.
use Rattle.std.specs.Prelude.{◌≡◌, ℕ, ◌<◌, Bool, IsTrue, List, false, filter, length, map, true}
use Rattle.bal_base.specs.Bits.{IsAscending}
use Rattle.bal_choose.specs.declared.rows.ChoiceRow.{ChoiceRow}
use Rattle.bal_layout.specs.Regions.{age_of, all_regions, is_eden, is_in, is_object, region_at}
use Rattle.bal_layout.specs.declared.region_state.RegionState.{RegionState}
use Rattle.bal_remember.specs.Remembered.{is_overflowed}

-- what the choice goes by of one region
abbrev pub row_in : List RegionState → ℕ → ChoiceRow
row_in regions q = record {
  region = q;
  age = age_of (region_at regions q).role;
  overflowed = is_overflowed (region_at regions q).remembered;
  used = (region_at regions q).used;
  estimate = (region_at regions q).estimate;
}

abbrev pub holds_objects : List RegionState → ℕ → Bool
holds_objects regions q = is_object (region_at regions q).role

-- and of all regions of objects, ascending
abbrev pub rows_in : List RegionState → List ChoiceRow
rows_in regions = map (row_in regions) (filter (holds_objects regions) (all_regions regions))

-- these may be collected on their own: they are regions of objects, ascending; of each it is known which cards refer into it;
-- and eden goes with them, as far as that is known of it
pub record MayBeCollected (regions : List RegionState) (chosen : List ℕ) : Type 0 where
  pub ascending : IsAscending chosen
  pub within : (q : ℕ) → IsTrue (is_in q chosen) → q < length regions
  pub objects : (q : ℕ) → IsTrue (is_in q chosen) → is_object (region_at regions q).role ≡ true
  pub known : (q : ℕ) → IsTrue (is_in q chosen) → is_overflowed (region_at regions q).remembered ≡ false
  pub eden : (q : ℕ) → q < length regions → is_eden (region_at regions q).role ≡ true → is_overflowed (region_at regions q).remembered ≡ false
      → IsTrue (is_in q chosen)
