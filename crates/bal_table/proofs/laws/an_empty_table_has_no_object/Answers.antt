use Rattle.bal_table.proofs.Changed.{thing-none}
use Rattle.bal_table.proofs.Tables.{IsTable-empty}
use Rattle.bal_table.proofs.laws.an_empty_table_has_no_object.Goals as goal

pub returns-clause-none : goal.returns-clause-none
returns-clause-none c = thing-none

pub returns-clause-table : goal.returns-clause-table
returns-clause-table c = IsTable-empty
