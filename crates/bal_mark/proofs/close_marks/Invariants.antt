use Rattle.std.proofs.Common.{◌-◌}
use Rattle.bal_table.specs.Table.{things_of}
use Rattle.bal_mark.specs.Closing.{IsClosing}
use Rattle.bal_mark.specs.Marking.{AreMarksOf}
use Rattle.bal_mark.proofs.close_marks.Given as goal

-- what left the queue has been looked at
abbrev pub invariant-loop-address : goal.invariant-loop-address
invariant-loop-address l = record {
  marks : AreMarksOf l.table l.marks;
  closing : IsClosing (things_of l.table) l.roots l.marks;
}

-- addresses leave the queue one by one, and there are no more than words
abbrev pub decreases-loop-address : goal.decreases-loop-address
decreases-loop-address l = l.marks.words - l.marks.taken
