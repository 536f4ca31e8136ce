-- What one worker did of an evacuation, and the state of the core that it stands for.
use Rattle.std.specs.Prelude.{ℕ, ◌+◌, Bool, true, false, List, [], ◌∷◌, length, replicate, Option, Some, None, is_some, slice_index_or, if◌then◌else◌}
use Rattle.bal_layout.specs.declared.name.Abort.{Abort}
use Rattle.bal_layout.specs.declared.name.Abort.TheVariants as abort
use Rattle.bal_core.specs.declared.event.Decision.{Decision}
use Rattle.bal_core.specs.declared.row.Told.{Told}
use Rattle.bal_core.specs.declared.row.Drawn.{Drawn}
use Rattle.bal_core.specs.World.{State, World}
use Rattle.bal_region.specs.Land.{Land}
use Rattle.bal_dest.specs.Buffers.{Buffers}
use Rattle.bal_dest.specs.declared.buffers.Destination.{Destination}

-- what was decided of each object; the decided objects in their order, how many more may follow, and how many of them were
-- copied; the regions that were drawn, with the copies; those of the pool that were not drawn; and why the abort was raised, if
-- it was
pub record Course : Type 0 where
  pub words : List (Option Decision)
  pub won : List Told
  pub room : ℕ
  pub copied : ℕ
  pub buffers : Buffers
  pub spares : List Land
  pub cause : Option Abort

abbrev pub decision_of : Course → ℕ → Option Decision
decision_of c k = slice_index_or c.words k None

-- regions in the order in which they were drawn, where the first has this place in the pool
unfoldable pub drawn_from : ℕ → List Destination → List Drawn
drawn_from n [] = []
drawn_from n (d ∷ ds) = record { ordinal = n; region = d.region.number; age = d.age } ∷ drawn_from (n + 1) ds

abbrev pub drawn_by : Course → List Drawn
drawn_by c = drawn_from 0 c.buffers.regions

-- the worker wished to abort
abbrev pub is_wish : Option Abort → Bool
is_wish None = false
is_wish (Some (abort.Wished worker)) = true
is_wish (Some abort.Drained) = false

-- it asked for a region and the pool had none
abbrev pub is_dry : Option Abort → Bool
is_dry None = false
is_dry (Some (abort.Wished worker)) = false
is_dry (Some abort.Drained) = true

-- a state with one worker, which looks at nothing that it did not decide
abbrev pub alone : World → List (Option Decision) → List Told → List Drawn → Option Abort → State
alone w words won drawn cause = record {
  world = w;
  words = words;
  counter = length drawn + (if is_dry cause then 1 else 0);
  wished = is_wish cause ∷ replicate 31 false;
  drained = is_dry cause;
  crew = record { known = won; won = won; drawn = drawn; dry = is_dry cause; raised = is_some cause; saw = is_some cause } ∷ [];
}

abbrev pub state_of : World → Course → State
state_of w c = alone w c.words c.won (drawn_by c) c.cause
