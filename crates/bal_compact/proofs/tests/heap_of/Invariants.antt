use Rattle.bal_compact.specs.Trials.{IsTrial}
use Rattle.bal_compact.proofs.tests.heap_of.Given as goal

abbrev pub invariant-loop-region : goal.invariant-loop-region
invariant-loop-region l = IsTrial l.table
