use Rattle.bal_rules.proofs.RunsGoOn.{run-goes-on}
use Rattle.bal_rules.proofs.laws.a_run_goes_on_after_a_global.Goals as goal

pub returns : goal.returns
returns c = run-goes-on
