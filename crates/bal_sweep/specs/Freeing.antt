-- What holds while all regions are swept, and while those are freed in which no object is left.
use Rattle.std.specs.Prelude.{◌≡◌, ℕ, ◌<◌, ◌≤◌, List, filter, length, if◌then◌else◌}
use Rattle.std.specs.List.{range_with_len}
use Rattle.bal_cards.specs.Cards.{Cards}
use Rattle.bal_layout.specs.Regions.{freed, is_in, region_at}
use Rattle.bal_region.specs.Changes.{empty_land}
use Rattle.bal_table.specs.Table.{Table, land_at}
use Rattle.bal_sweep.specs.Sweep.{is_vacant, left_at, state_after, without_regions}

-- the regions below a number were swept, and the others are as before
pub record IsSweptTo (marked : List ℕ) (before after : Table) (k : ℕ) : Type 0 where
  pub shape : after.shape ≡ before.shape
  pub current : after.current ≡ before.current
  pub lands : length after.lands ≡ length before.lands
  pub regions : length after.regions ≡ length before.regions
  pub below : (q : ℕ) → q < k → (land_at after q ≡ left_at marked before q) × (region_at after.regions q ≡ state_after marked before q)
  pub behind : (q : ℕ) → k ≤ q → (land_at after q ≡ land_at before q) × (region_at after.regions q ≡ region_at before.regions q)

-- the vacant regions below a number
abbrev pub vacant_to : Table → ℕ → List ℕ
vacant_to t k = filter (is_vacant t) (range_with_len 0 k)

-- they were freed, and the others are as before, but that nothing is remembered of the cards of those
pub record IsFreedTo (before after : Table) (c d : Cards) (k : ℕ) : Type 0 where
  pub shape : after.shape ≡ before.shape
  pub current : after.current ≡ before.current
  pub count : length after.lands ≡ length before.lands
  pub lands : (q : ℕ) → land_at after q ≡ (if is_in q (vacant_to before k) then empty_land q before.shape.words else land_at before q)
  pub regions : after.regions ≡ freed before.shape (vacant_to before k) before.regions
  pub cards : d ≡ without_regions (vacant_to before k) c
