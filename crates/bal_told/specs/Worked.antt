-- A small evacuation, worked out: of two objects in an eden region the first is copied, and as that is all that a worker may copy,
-- it wishes to stop, and the second is marked.
use Rattle.std.specs.Prelude.{true, false, List, [], ◌∷◌, Some, None}
use Rattle.bal_layout.specs.Regions.{free_region}
use Rattle.bal_layout.specs.declared.name.Abort.{Abort}
use Rattle.bal_layout.specs.declared.name.Abort.TheVariants as abort
use Rattle.bal_layout.specs.declared.name.Kind.TheVariants as kind
use Rattle.bal_layout.specs.declared.name.Name.{Name}
use Rattle.bal_layout.specs.declared.region_state.Role.TheVariants as roles
use Rattle.bal_core.specs.World.{World}
use Rattle.bal_core.specs.Steps.{told}
use Rattle.bal_core.specs.Finished.{Evacuation}
use Rattle.bal_core.specs.declared.event.Decision.TheVariants as decision
use Rattle.bal_model.specs.Configs.{without_options}
use Rattle.bal_model.specs.Plain as plain
use Rattle.bal_model.specs.declared.config.Config.{Config}
use Rattle.bal_model.specs.declared.event.How.TheVariants as how
use Rattle.bal_model.specs.declared.event.Kept.{Kept}
use Rattle.bal_rules.specs.Board.{Board}

abbrev pub first : Name
first = record { thread = 0; ordinal = 1 }

abbrev pub second : Name
second = record { thread = 0; ordinal = 2 }

-- four regions of 256 words, one worker, and one copy at most
abbrev pub one_copy : Config
one_copy = record without_options { geometry = record { regions = 4; words = 256 }; workers = 1; abort_after = Some 1 }

-- an object with two numbers
abbrev pub two_numbers : plain.Object
two_numbers = record { kind = kind.Plain; refs = []; values = 0 ∷ 0 ∷ [] }

-- two registers hold the two objects
abbrev pub two_held : plain.State
two_held = record {
  mutators = record { registers = Some first ∷ Some second ∷ []; made = two_numbers ∷ two_numbers ∷ [] } ∷ [];
  globals = [];
}

abbrev pub one_eden : Board
one_eden = record {
  plain = two_held;
  present = record { name = first; region = 0; leaves = [] } ∷ record { name = second; region = 0; leaves = [] } ∷ [];
  regions = record free_region { role = roles.Object 0; used = 8; estimate = 8 } ∷ free_region ∷ free_region ∷ free_region ∷ [];
  current = None;
  counter = 0;
  cycle = None;
}

abbrev pub two_objects : World
two_objects = record {
  shape = record { regions = 4; words = 256 };
  ages = 0 ∷ 0 ∷ [];
  sizes = 4 ∷ 4 ∷ [];
  names = first ∷ second ∷ [];
  targets = [] ∷ [] ∷ [];
  roots = 0 ∷ 1 ∷ [];
  pool = 1 ∷ 2 ∷ 3 ∷ [];
}

abbrev pub copied_and_marked : Evacuation
copied_and_marked = record {
  world = two_objects;
  won = (told 0 (decision.Copied 256) ∷ told 1 decision.Marked ∷ []) ∷ [];
  drawn = (record { ordinal = 0; region = 1; age = 1 } ∷ []) ∷ [];
  taken = 1;
  wished = true ∷ [];
  drained = false;
}

abbrev pub kept_of_them : List Kept
kept_of_them =
    record { name = first; how = how.Copied 1; worker = 0 }
    ∷ record { name = second; how = how.Marked; worker = 0 }
    ∷ []

abbrev pub one_wish : List Abort
one_wish = abort.Wished 0 ∷ []
