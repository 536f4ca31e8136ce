-- A heap without its dead.
use Rattle.std.specs.Prelude.{ℕ, ◌↔◌, IsTrue, List}
use Rattle.bal_layout.specs.Regions.{is_in}
use Rattle.bal_layout.specs.declared.name.Name.{Name}
use Rattle.bal_rebuild.specs.Rebuilt.{with_empty_lists}
use Rattle.bal_sweep.specs.Dead.{AreTheDead}
use Rattle.bal_sweep.specs.Sweep.{IsSwept}
use Rattle.bal_table.specs.Table.{IsTable, Table, things_of}
use Rattle.bal_words.specs.Paths.{EndsPath}

-- the lists were emptied, what the roots reach was marked, and the rest was swept and told
pub record IsCleared (before after : Table) (roots marked : List ℕ) (dead : List Name) : Type 0 where
  pub table : IsTable before
  pub now : IsTable after
  pub reached : (a : ℕ) → IsTrue (is_in a marked) ↔ EndsPath (things_of before) roots a
  pub swept : IsSwept marked (with_empty_lists before) after
  pub dead_are : AreTheDead marked (with_empty_lists before) dead
