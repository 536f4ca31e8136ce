use Rattle.bal_sweep.specs.Trials.{IsTrial}
use Rattle.bal_sweep.proofs.tests.empty_heap.Given as goal

abbrev pub invariant-loop-age : goal.invariant-loop-age
invariant-loop-age l = IsTrial l.table
