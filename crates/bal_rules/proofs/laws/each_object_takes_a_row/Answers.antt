use Rattle.bal_rules.proofs.RunsInRange.{run-made, run-executes-few}
use Rattle.bal_rules.proofs.laws.each_object_takes_a_row.Goals as goal

pub returns-clause-objects : goal.returns-clause-objects
returns-clause-objects c = run-made

pub returns-clause-rows : goal.returns-clause-rows
returns-clause-rows c = run-executes-few
