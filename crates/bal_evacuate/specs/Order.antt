-- The order of the decisions: breadth first (Cheney 1970). What the roots hold comes first, and then what the decided objects
-- hold, in the order in which these were decided.
use Rattle.std.specs.Prelude.{◌≡◌, ℕ, ◌==◌, List, [], ◌∷◌, ◌++◌, map, Option, if◌then◌else◌}
use Rattle.std.specs.List.{list_any}
use Rattle.std.specs.Option.{option_to_list}
use Rattle.bal_core.specs.declared.row.Told.{Told}
use Rattle.bal_core.specs.World.{Graph, slots_in}
use Rattle.bal_evacuate.specs.Course.{Course}
use Rattle.bal_evacuate.specs.Plan.{Plan}

abbrev pub objects_of : List Told → List ℕ
objects_of won = map (λ (t : Told). t.object) won

-- what slots hold, in their order
unfoldable pub held : List (Option ℕ) → List ℕ
held [] = []
held (o ∷ slots) = option_to_list o ++ held slots

-- what these objects hold, one object after the other
unfoldable pub held_by : Graph → List Told → List ℕ
held_by g [] = []
held_by g (t ∷ won) = held (slots_in g.targets t.object) ++ held_by g won

-- a number comes behind those that are there, unless it is one of them
abbrev pub with_first : List ℕ → ℕ → List ℕ
with_first seen k = if list_any (λ j. j == k) seen then seen else seen ++ k ∷ []

-- numbers come in turn behind those that are there, each where it comes first
unfoldable pub firsts : List ℕ → List ℕ → List ℕ
firsts seen [] = seen
firsts seen (k ∷ ks) = firsts (with_first seen k) ks

-- the decided objects are what the roots and the decided objects hold, each where it comes first
abbrev pub IsBreadthFirst : Plan → Course → Type 0
IsBreadthFirst p c = objects_of c.won ≡ firsts [] (p.roots ++ held_by p.graph c.won)
