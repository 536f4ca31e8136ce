-- What the journal tells of an evacuation: each survivor by its name, and why the evacuation was aborted, if it was.
use Rattle.std.specs.Prelude.{⊤, ℕ, ◌<◌, ◌++◌, Bool, List, [], ◌∷◌, flat_map, length, map, slice_index_or, if◌then◌else◌}
use Rattle.std.specs.List.{range_with_len}
use Rattle.std.specs.List.Sorted.{IsPermutation}
use Rattle.bal_base.specs.Numbering.{numbers_from}
use Rattle.bal_layout.specs.Addresses.{IsAddress, region_of}
use Rattle.bal_layout.specs.Names.{is_before}
use Rattle.bal_layout.specs.Shape.{Shape}
use Rattle.bal_layout.specs.declared.name.Abort.{Abort}
use Rattle.bal_layout.specs.declared.name.Abort.TheVariants as abort
use Rattle.bal_layout.specs.declared.name.Name.{Name}
use Rattle.bal_core.specs.declared.event.Decision.{Decision}
use Rattle.bal_core.specs.declared.event.Decision.TheVariants as decision
use Rattle.bal_core.specs.declared.row.Told.{Told}
use Rattle.bal_core.specs.Finished.{Evacuation, won_by}
use Rattle.bal_model.specs.Ascending.{IsAscending}
use Rattle.bal_model.specs.declared.event.How.{How}
use Rattle.bal_model.specs.declared.event.How.TheVariants as how
use Rattle.bal_model.specs.declared.event.Kept.{Kept}
use Rattle.bal_rules.specs.PartialEvents.{names_kept}

-- what the journal tells of a decision: of a copy the region alone
abbrev pub how_of : Shape → Decision → How
how_of s (decision.Copied address) = how.Copied (region_of s address)
how_of s decision.Marked = how.Marked

-- the name of an object, by its number
abbrev pub name_in : List Name → ℕ → Name
name_in names k = slice_index_or names k (record { thread = 0; ordinal = 0 })

-- what is told of an object that this worker decided
abbrev pub told_as : Shape → List Name → ℕ → Told → Kept
told_as s names worker t = record { name = name_in names t.object; how = how_of s t.decision; worker = worker }

-- of all objects that one worker decided, in the order in which it did
abbrev pub told_by : Evacuation → ℕ → List Kept
told_by e n = map (told_as e.world.shape e.world.names n) (won_by e n)

-- of all objects that the first n workers decided, worker by worker
abbrev pub told_up_to : Evacuation → ℕ → List Kept
told_up_to e n = flat_map (told_by e) (range_with_len 0 n)

-- of all survivors
abbrev pub survivors_of : Evacuation → List Kept
survivors_of e = told_up_to e (length e.won)

-- a copy has an address of the heap
abbrev pub IsInHeap : Shape → Decision → Type 0
IsInHeap s (decision.Copied address) = IsAddress s address
IsInHeap s decision.Marked = ⊤

-- what was decided can be told: it is of one of so many objects, and a copy has an address of the heap
pub record IsTellable (s : Shape) (count : ℕ) (t : Told) : Type 0 where
  pub object : t.object < count
  pub address : IsInHeap s t.decision

-- one stands before another by its name
abbrev pub goes_before : Kept → Kept → Bool
goes_before k l = is_before k.name l.name

-- the journal's list: all survivors, each once, by ascending name
pub record AreTold (e : Evacuation) (kept : List Kept) : Type 0 where
  pub same : IsPermutation (survivors_of e) kept
  pub ascending : IsAscending (names_kept kept)

-- why it was aborted: the workers that wished it, ascending, and then that the pool was drained
abbrev pub causes_of : Evacuation → List Abort
causes_of e = map abort.Wished (numbers_from 0 (λ wished. wished) e.wished) ++ (if e.drained then abort.Drained ∷ [] else [])
