use Rattle.bal_evacuate.proofs.Trials.{ArePooled}
use Rattle.bal_evacuate.proofs.tests.trial.pool_of.Given as goal

-- the regions so far
abbrev pub invariant-loop-place : goal.invariant-loop-place
invariant-loop-place l = ArePooled l.count l.pool.items l.place
