use Rattle.std.proofs.Common.{arith}
use Rattle.bal_table.specs.Marks.{no_marks}
use Rattle.bal_mark.proofs.Room.{no-marks}
use Rattle.bal_mark.proofs.Steps.{next-may}
use Rattle.bal_mark.proofs.mark_roots.Goals as goal

pub mark_word-requires-clause-room : goal.mark_word-requires-clause-room
mark_word-requires-clause-room c =
    let words = c.args.marks.now.words in
    next-may c.args.table.now (no_marks words) c.loop-index.marks c.args.roots.now c.loop-index.index c.root.result c.loop-index.invariant
    (omega (arith, c.loop-index-test.true, c.root_count-index-end.ensures)) c.root.ensures
    (no-marks c.args.table.now words c.requires.table c.requires.words) c.requires.found
