-- How a table is kept while its free regions are out: in the place of each stands a region without words.
use Rattle.std.specs.Prelude.{◌≡◌, ℕ, ◌<◌, ◌==◌, Bool, true, List, length, map, if◌then◌else◌}
use Rattle.bal_base.specs.Numbering.{numbers_from}
use Rattle.bal_layout.specs.Regions.{is_free, region_at}
use Rattle.bal_layout.specs.Shape.{Shape}
use Rattle.bal_layout.specs.declared.region_state.RegionState.{RegionState}
use Rattle.bal_region.specs.Changes.{empty_land}
use Rattle.bal_region.specs.Land.{Land}
use Rattle.bal_table.specs.Kept.{AreCounted}
use Rattle.bal_table.specs.Occupied.{Occupied}
use Rattle.bal_table.specs.Table.{IsTable, Table}
use Rattle.bal_table.specs.Taken.{kept_at}
use Rattle.bal_table.specs.declared.occupied.Occupied.TheInside.{Inside}

-- a region without words
abbrev pub is_hollow : Land → Bool
is_hollow l = length l.words == 0

-- what is seen in the place of a region
abbrev pub seen_land : Shape → Land → Land
seen_land s l = if is_hollow l then empty_land l.number s.words else l

abbrev pub seen_table : Inside → Table
seen_table a = record { shape = a.geometry; lands = map (seen_land a.geometry) a.regions.items; regions = a.states.items; current = a.current }

abbrev pub occupied_of : Inside → Occupied
occupied_of a = record { table = seen_table a; out = numbers_from 0 is_hollow a.regions.items }

-- a region without words is free, and has its number
abbrev pub AreHollow : List Land → List RegionState → Type 0
AreHollow lands regions = (q : ℕ) → q < length lands → is_hollow (kept_at lands q) ≡ true
    → (kept_at lands q ≡ empty_land q 0) × (is_free (region_at regions q).role ≡ true)

pub record IsKept (a : Inside) : Type 0 where
  pub table : IsTable (seen_table a)
  pub counts : AreCounted a.states.items a.lowest a.free a.eden
  pub hollow : AreHollow a.regions.items a.states.items
