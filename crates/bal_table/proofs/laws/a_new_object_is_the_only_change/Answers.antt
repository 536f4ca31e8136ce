use Rattle.bal_table.proofs.Changed.{thing-free, thing-placed}
use Rattle.bal_table.proofs.Tables.{IsTable-placed}
use Rattle.bal_table.proofs.laws.a_new_object_is_the_only_change.Goals as goal

pub returns-clause-free : goal.returns-clause-free
returns-clause-free c = thing-free

pub returns-clause-placed : goal.returns-clause-placed
returns-clause-placed c = thing-placed

pub returns-clause-table : goal.returns-clause-table
returns-clause-table c = IsTable-placed
