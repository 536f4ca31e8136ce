use Rattle.std.proofs.Common.{◌≡◌}
use Rattle.bal_gather.proofs.tests.reads_around.Given as goal

-- the view is of this table
abbrev pub invariant-loop-card : goal.invariant-loop-card
invariant-loop-card g l = l.outside.table ≡ l.heap.table
