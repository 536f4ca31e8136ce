-- Walks along references, and the names at their ends.
use Rattle.std.specs.Prelude.{ℕ, zero, suc, ◌||◌, Bool, IsTrue, List, [], ◌∷◌, ◌++◌, filter, filter_map, flat_map, map, length, Option}
use Rattle.std.specs.List.{list_any, range_with_len}
use Rattle.bal_layout.specs.declared.name.Name.{Name}
use Rattle.bal_layout.specs.Names.{is_among}
use Rattle.bal_model.specs.Plain.{State, refs, made_by}

-- where walks go: inside which names, by ascending name, from which they may begin, and along which references
pub record Ground : Type 0 where
  pub inside : List Name
  pub begins : Name → Bool
  pub refs : Name → List Name

-- a walk, told from its end back to where it began
abbrev pub IsWalk : Ground → List Name → Type 0
IsWalk g [] = ⊥
IsWalk g (x ∷ []) = IsTrue (is_among x g.inside) × IsTrue (g.begins x)
IsWalk g (y ∷ x ∷ before) = IsTrue (is_among y g.inside) × IsTrue (is_among y (g.refs x)) × IsWalk g (x ∷ before)

-- a walk ends at the name
abbrev pub EndsWalk : Ground → Name → Type 0
EndsWalk g x = (before : List Name) × IsWalk g (x ∷ before)

-- one level more: what was reached, and what it refers to
abbrev pub next_level : Ground → List Name → List Name
next_level g reached = filter (λ y. is_among y reached || list_any (λ x. is_among y (g.refs x)) reached) g.inside

abbrev pub levels : ℕ → Ground → List Name → List Name
levels zero g reached = reached
levels (suc n) g reached = levels n g (next_level g reached)

-- the names at the ends of walks, by ascending name: no walk needs more levels than there are names
abbrev pub ends_of_walks : Ground → List Name
ends_of_walks g = levels (length g.inside) g (filter g.begins g.inside)

-- The plain graph as ground.

-- the names that are not null
abbrev pub names_in : List (Option Name) → List Name
names_in content = filter_map (λ o. o) content

-- the names held by registers and globals
abbrev pub root_names : State → List Name
root_names s = flat_map (λ m. names_in m.registers) s.mutators ++ names_in s.globals

abbrev pub targets : State → Name → List Name
targets s x = names_in (refs s x)

-- the names of all objects, by ascending name
abbrev pub all_names : State → List Name
all_names s = flat_map (λ t. map (λ o. record { thread = t; ordinal = o }) (range_with_len 1 (made_by s t))) (range_with_len 0 (length s.mutators))

-- walks begin at what registers and globals hold
abbrev pub graph_ground : State → Ground
graph_ground s = record { inside = all_names s; begins = λ x. is_among x (root_names s); refs = targets s }

-- what can be reached from the registers and globals
abbrev pub reachable : State → List Name
reachable s = ends_of_walks (graph_ground s)
