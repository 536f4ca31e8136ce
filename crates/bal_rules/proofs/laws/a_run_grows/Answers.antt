use Rattle.bal_rules.proofs.RunFacts.{IsRun-more}
use Rattle.bal_rules.proofs.laws.a_run_grows.Goals as goal

pub returns : goal.returns
returns c = IsRun-more
