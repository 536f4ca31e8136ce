use Rattle.bal_table.proofs.Tables.{IsTable-current, IsTable-estimate, IsTable-remembered, IsTable-role}
use Rattle.bal_table.proofs.laws.states_say_nothing_of_objects.Goals as goal

pub returns-clause-role : goal.returns-clause-role
returns-clause-role c = IsTable-role

pub returns-clause-estimate : goal.returns-clause-estimate
returns-clause-estimate c = IsTable-estimate

pub returns-clause-current : goal.returns-clause-current
returns-clause-current c = IsTable-current

pub returns-clause-list : goal.returns-clause-list
returns-clause-list c = IsTable-remembered
