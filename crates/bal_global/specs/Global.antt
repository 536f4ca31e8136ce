-- The heap's state by the words of a table and of the roots, as a board meets it.
use Rattle.std.specs.Prelude.{◌≡◌, ℕ, List, []}
use Rattle.bal_meet.specs.Heap.{Heap, Meets}
use Rattle.bal_model.specs.declared.config.Config.{Config}
use Rattle.bal_rules.specs.Board.{Board}
use Rattle.bal_table.specs.Table.{Table, things_of}

-- where each thread has made so many objects. No object is an arraylet yet
abbrev pub heap_by : Table → List ℕ → List ℕ → Heap
heap_by t roots made = record {
  shape = t.shape;
  things = things_of t;
  leaves = λ a. [];
  roots = roots;
  account = record { made = made; regions = t.regions; current = t.current };
}

-- the words are those of a board, in a heap of the configured shape
pub record IsOnBoard (c : Config) (t : Table) (roots made : List ℕ) (b : Board) : Type 0 where
  pub shape : c.geometry ≡ t.shape
  pub meets : Meets (heap_by t roots made) b
