use Rattle.bal_rules.proofs.RunsInRange.{run-within}
use Rattle.bal_rules.proofs.laws.a_run_stays_in_its_regions.Goals as goal

pub returns : goal.returns
returns c = run-within
