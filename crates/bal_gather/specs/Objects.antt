-- The objects of the chosen regions as a graph, told by number: what an evacuation asks for.
use Rattle.std.specs.Prelude.{ℕ, List, [], map, Option, option_and_then, unwrap_or}
use Rattle.bal_core.specs.World.{Graph}
use Rattle.bal_layout.specs.Addresses.{region_of}
use Rattle.bal_layout.specs.References.{target_of}
use Rattle.bal_layout.specs.Regions.{age_of}
use Rattle.bal_table.specs.Table.{Table, objects_of, refs_in, role_at, things_of}
use Rattle.bal_gather.specs.Lent.{Lent}
use Rattle.bal_gather.specs.Numbers.{number_of, starts_of}

-- the age of the region in which an address lies, and the words of the object that starts there
abbrev pub age_at : Table → ℕ → ℕ
age_at t a = age_of (role_at t (region_of t.shape a))

abbrev pub words_at : Table → ℕ → List ℕ
words_at t a = unwrap_or (objects_of t a) []

-- the number of the object to which a reference leads: none if it is null, or leads out of the chosen regions
abbrev pub number_behind : Lent → ℕ → Option ℕ
number_behind l word = option_and_then (number_of l) (target_of word)

-- what the slots of the object hold that starts there
abbrev pub targets_at : Lent → ℕ → List (Option ℕ)
targets_at l a = map (number_behind l) (refs_in (things_of l.table a))

abbrev pub graph_of : Lent → Graph
graph_of l = record {
  ages = map (age_at l.table) (starts_of l);
  words = map (words_at l.table) (starts_of l);
  targets = map (targets_at l) (starts_of l);
}
