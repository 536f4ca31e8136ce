-- What holds of the board after every run.
use Rattle.std.specs.Prelude.{◌≤◌, ◌<◌, IsTrue, List}
use Rattle.std.specs.List.{AllByRecursion}
use Rattle.bal_layout.specs.declared.name.Name.{Name}
use Rattle.bal_model.specs.declared.row.Row.{Row}
use Rattle.bal_rules.specs.Board.{Board, names_placed, is_present}
use Rattle.bal_layout.specs.Names.{is_among}
pub use Rattle.bal_model.specs.Ascending.{IsAscending}
use Rattle.bal_model.specs.Plain.{State, made_by}
use Rattle.bal_model.specs.Walk.{root_names, targets}

-- the name is of an object that was made
pub record IsMade (s : State) (x : Name) : Type 0 where
  pub thread : x.thread < 32
  pub first : 1 ≤ x.ordinal
  pub last : x.ordinal ≤ made_by s x.thread

-- each object stands in the heap once, and what the registers, the globals and the present objects refer to is present
pub record IsSound (b : Board) : Type 0 where
  pub ascending : IsAscending (names_placed b.present)
  pub made : (x : Name) → IsTrue (is_present b x) → IsMade b.plain x
  pub roots : (x : Name) → IsTrue (is_among x (root_names b.plain)) → IsTrue (is_present b x)
  pub closed : (x y : Name) → IsTrue (is_present b x) → IsTrue (is_among y (targets b.plain x)) → IsTrue (is_present b y)

-- the rows are of the 32 threads that there are
abbrev pub AreOfThreads : List Row → Type 0
AreOfThreads rows = AllByRecursion (λ (r : Row). r.thread < 32) rows
