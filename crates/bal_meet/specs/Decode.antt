-- How words stand for the plain state: the objects that start in the heap are its present objects, and the roots hold what
-- its registers and globals hold.
use Rattle.std.specs.Prelude.{◌≡◌, ℕ, ◌++◌, List, flat_map, length, Option, Some, None, IsSome, if◌then◌else◌}
use Rattle.std.specs.List.{AllByRecursion}
use Rattle.bal_layout.specs.Graph.{Graph}
use Rattle.bal_layout.specs.Names.{is_among}
use Rattle.bal_layout.specs.declared.name.Name.{Name}
use Rattle.bal_model.specs.Entries.{Spot}
use Rattle.bal_model.specs.Plain.{Mutator, State, object}
use Rattle.bal_rules.specs.Board.{Placed, names_placed, place_of}
use Rattle.bal_rules.specs.Sound.{IsAscending}
use Rattle.bal_words.specs.Shown.{Shows, ShowsRoots}
use Rattle.bal_words.specs.Things.{Thing, Things}

-- the objects of the plain state, without those that are not present
abbrev pub graph_of : State → List Placed → Graph
graph_of s present x = if is_among x (names_placed present) then object s x else None

-- what the registers hold, thread by thread, and then the globals
abbrev pub roots_of : State → List (Option Name)
roots_of s = flat_map (λ (m : Mutator). m.registers) s.mutators ++ s.globals

-- 32 mutators with 32 registers each, and 64 globals
pub record IsState (s : State) : Type 0 where
  pub mutators : length s.mutators ≡ 32
  pub registers : AllByRecursion (λ (m : Mutator). length m.registers ≡ 32) s.mutators
  pub globals : length s.globals ≡ 64

-- the object of this name lies at this spot
abbrev pub placed_at : Name → Spot → Placed
placed_at x spot = record { name = x; region = spot.region; leaves = spot.leaves }

-- the words decode to the plain state without the objects that are not present. Each object that starts in the heap is placed
-- where it lies: `spot` tells that of the address at which it starts
pub record Decodes (spot : ℕ → Spot) (things : Things) (roots : List ℕ) (s : State) (present : List Placed) : Type 0 where
  pub state : IsState s
  -- what is present was made
  pub made : AllByRecursion (λ (p : Placed). IsSome (object s p.name)) present
  -- no object is listed twice, and the order says nothing
  pub ascending : IsAscending (names_placed present)
  pub objects : Shows things (graph_of s present)
  pub held : ShowsRoots things roots (roots_of s)
  pub places : (a : ℕ) (x : Thing) → things a ≡ Some x → place_of present x.name ≡ Some (placed_at x.name (spot a))
