use Rattle.std.proofs.Common.{◌≡◌, true, take}
use Rattle.bal_text.specs.Lines.{ascends}
use Rattle.bal_text.proofs.reader.order.ascend.Given as goal

-- so many of them ascend
abbrev pub invariant-loop-i : goal.invariant-loop-i
invariant-loop-i g l = ascends g.W.Ordered.before (take l.i l.items) ≡ true
