-- An evacuation of objects of a table into the regions of it that were free.
use Rattle.std.specs.Prelude.{◌≡◌, ℕ, List, None, drop, length, map}
use Rattle.bal_core.specs.declared.event.CoreEvent.{CoreEvent}
use Rattle.bal_core.specs.Start.{start_of}
use Rattle.bal_core.specs.Steps.{after_all}
use Rattle.bal_dest.specs.declared.buffers.Destination.{Destination}
use Rattle.bal_evacuate.specs.Course.{Course, state_of}
use Rattle.bal_evacuate.specs.Plan.{IsCopied, Plan, world_for}
use Rattle.bal_gather.specs.Lent.{Lent}
use Rattle.bal_gather.specs.Objects.{graph_of}
use Rattle.bal_layout.specs.Regions.{free_regions}
use Rattle.bal_table.specs.Occupied.{Occupied, vacated}
use Rattle.bal_table.specs.Table.{IsTable, Table, land_at}
use Rattle.bal_copyfwd.specs.Filled.{Back, all_back, with_all_filled}

-- what is lent of a table that was split, and what is left of it
abbrev pub lent_of : Table → List ℕ → Lent
lent_of t chosen = record { table = vacated t; regions = chosen }

abbrev pub split_of : Table → Occupied
split_of t = record { table = vacated t; out = free_regions t.regions }

-- what an evacuation puts back, and the numbers of the regions with copies
abbrev pub backs_of : Course → List Back
backs_of c = all_back c.buffers.regions c.spares

abbrev pub filled_numbers : Course → List ℕ
filled_numbers c = map (λ (d : Destination). d.region.number) c.buffers.regions

-- the table, once all of it is back
abbrev pub refilled : Table → Course → Table
refilled t c = with_all_filled (backs_of c) (vacated t)

-- the objects of the chosen regions were evacuated by a plan that draws from the free regions, and nothing is reserved
pub record IsEvacuationOf (t : Table) (chosen : List ℕ) (p : Plan) (c : Course) : Type 0 where
  pub table : IsTable t
  pub shape : p.shape ≡ t.shape
  pub graph : p.graph ≡ graph_of (lent_of t chosen)
  pub pool : p.pool ≡ map (land_at t) (free_regions t.regions)
  pub events : List CoreEvent
  pub begun : state_of (world_for p) c ≡ after_all events (start_of (world_for p) 1)
  pub copied : IsCopied p c
  pub spares : c.spares ≡ drop (length c.buffers.regions) p.pool
  pub idle : c.buffers.reserved ≡ None
