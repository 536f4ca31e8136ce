-- What stands in the place of free regions that were taken out.
use Rattle.std.specs.Prelude.{◌≡◌, ℕ, ◌<◌, List, length, if◌then◌else◌, slice_index_or}
use Rattle.bal_layout.specs.Regions.{is_free, region_at}
use Rattle.bal_layout.specs.declared.region_state.RegionState.{RegionState}
use Rattle.bal_region.specs.Changes.{empty_land}
use Rattle.bal_region.specs.Land.{Land}

-- a region by its number, of some
abbrev pub kept_at : List Land → ℕ → Land
kept_at lands q = slice_index_or lands q (empty_land 0 0)

-- one without words in the place of each free one, and the others
pub record AreTaken (before : List Land) (regions : List RegionState) (after : List Land) : Type 0 where
  pub long : length after ≡ length before
  pub each : (q : ℕ) → q < length before → kept_at after q ≡ (if is_free (region_at regions q).role then empty_land q 0 else kept_at before q)
