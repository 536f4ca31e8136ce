use Rattle.bal_table.proofs.Changed.{thing-removed}
use Rattle.bal_table.proofs.Tables.{IsTable-removed}
use Rattle.bal_table.proofs.laws.a_removed_object_is_the_only_change_of_a_table.Goals as goal

pub returns-clause-removed : goal.returns-clause-removed
returns-clause-removed c = thing-removed

pub returns-clause-table : goal.returns-clause-table
returns-clause-table c = IsTable-removed
