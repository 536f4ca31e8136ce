use Rattle.std.proofs.Common.{◌≡◌}
use Rattle.bal_dest.specs.Trials.{IsTrial}
use Rattle.bal_dest.proofs.tests.copies.Given as goal

abbrev pub invariant-loop-offset : goal.invariant-loop-offset
invariant-loop-offset g l = IsTrial l.buffers × (l.buffers.room ≡ l.fn.buffers.room)
