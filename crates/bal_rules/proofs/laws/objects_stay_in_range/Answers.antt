use Rattle.bal_rules.proofs.RunsInRange.{run-objects}
use Rattle.bal_rules.proofs.laws.objects_stay_in_range.Goals as goal

pub returns : goal.returns
returns c = run-objects
