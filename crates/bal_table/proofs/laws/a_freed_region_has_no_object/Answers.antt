use Rattle.bal_table.proofs.Changed.{thing-beside, thing-gone}
use Rattle.bal_table.proofs.Tables.{IsTable-freed}
use Rattle.bal_table.proofs.laws.a_freed_region_has_no_object.Goals as goal

pub returns-clause-none : goal.returns-clause-none
returns-clause-none c = thing-gone

pub returns-clause-others : goal.returns-clause-others
returns-clause-others c = thing-beside

pub returns-clause-table : goal.returns-clause-table
returns-clause-table c = IsTable-freed
