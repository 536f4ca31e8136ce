use Rattle.bal_replay.proofs.DriverFacts.{IsUnderWay}
use Rattle.bal_replay.proofs.driver.execute.Given as goal

-- the rows of the file so far were executed
abbrev pub invariant-loop-place : goal.invariant-loop-place
invariant-loop-place l = IsUnderWay l.fn.config l.fn.trace.rows.list l.place l.heap
