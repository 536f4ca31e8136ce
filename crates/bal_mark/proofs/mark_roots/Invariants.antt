use Rattle.std.proofs.Common.{◌≡◌, take}
use Rattle.bal_table.specs.Marks.{no_marks}
use Rattle.bal_mark.specs.Marking.{with_all_led}
use Rattle.bal_mark.proofs.mark_roots.Given as goal

-- what the roots below this one hold has been marked, and nothing else
abbrev pub invariant-loop-index : goal.invariant-loop-index
invariant-loop-index l = l.marks ≡ with_all_led (no_marks l.fn.marks.words) (take l.index l.roots)
