use Rattle.bal_sweep.specs.Trials.{IsTrial}
use Rattle.bal_sweep.proofs.tests.heap_of.Given as goal

abbrev pub invariant-loop-region : goal.invariant-loop-region
invariant-loop-region l = IsTrial l.table
