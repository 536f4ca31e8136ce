use Rattle.std.proofs.Common.{◌≡◌, ◌≤◌, length}
use Rattle.bal_sweep.proofs.tests.marks_of.Given as goal

abbrev pub invariant-loop-address : goal.invariant-loop-address
invariant-loop-address l = (length l.marks.order ≤ l.count) × (l.marks.words ≡ 1024)
