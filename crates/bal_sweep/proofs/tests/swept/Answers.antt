use Rattle.bal_sweep.proofs.Trials.{trial-apart}
use Rattle.bal_sweep.proofs.tests.swept.Goals as goal

pub sweep-requires-clause-named : goal.sweep-requires-clause-named
sweep-requires-clause-named c = trial-apart c.args.table c.requires
