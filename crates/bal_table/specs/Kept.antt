-- How a table is kept: the words of its regions and their states as vectors, beside them how many regions are free and how
-- many are eden, and the lowest free one, so that no request goes over the regions.
use Rattle.std.specs.Prelude.{Bool, if◌then◌else◌, ℕ, ◌≡◌, ◌<◌, ◌≤◌, List, length, false, true}
use Rattle.bal_layout.specs.Regions.{eden_regions, free_regions, is_free, region_at}
use Rattle.bal_layout.specs.declared.region_state.RegionState.{RegionState}
use Rattle.bal_table.specs.Table.{IsTable, Table}
use Rattle.bal_table.specs.declared.table.Table.TheInside.{Inside}

abbrev pub table_of : Inside → Table
table_of a = record { shape = a.geometry; lands = a.regions.items; regions = a.states.items; current = a.current }

-- the lowest free region, or past the end if none is free
pub record IsLowest (regions : List RegionState) (lowest : ℕ) : Type 0 where
  pub within : lowest ≤ length regions
  pub below : (q : ℕ) → q < lowest → is_free (region_at regions q).role ≡ false
  pub free : lowest < length regions → is_free (region_at regions lowest).role ≡ true

-- one, if it is counted
abbrev pub counted : Bool → ℕ
counted b = if b then 1 else 0

-- the lowest free region, and how many are free and how many are eden
pub record AreCounted (regions : List RegionState) (least frees edens : ℕ) : Type 0 where
  pub lowest : IsLowest regions least
  pub free : frees ≡ length (free_regions regions)
  pub eden : edens ≡ length (eden_regions regions)

pub record IsKept (a : Inside) : Type 0 where
  pub table : IsTable (table_of a)
  pub counts : AreCounted a.states.items a.lowest a.free a.eden
