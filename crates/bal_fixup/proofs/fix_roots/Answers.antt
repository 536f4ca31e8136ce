use Rattle.std.proofs.Common.{◌<◌, ◌∙◌, ap, arith, get_or, length}
use Rattle.bal_fixup.specs.Mending.{word_mended}
use Rattle.bal_fixup.proofs.Words.{front-all, front-more, no-answer, word-answer, word-kept, word-set}
use Rattle.bal_fixup.proofs.fix_roots.Goals as goal
use Rattle.bal_fixup.proofs.fix_roots.Goals.{in-Some, in_default}
use Rattle.bal_table.specs.Moves.{moved_to}

pub loop-index-preserved : goal.loop-index-preserved
loop-index-preserved c =
    let to = moved_to c.args.moves.now in
    let words = c.args.roots.now in
    let now = c.loop-index.roots in
    let i = c.loop-index.index in
    let within : i < length words = omega (arith, c.loop-index-test.true, c.root_count-index-end.ensures) in
    let next = ap (word_mended to i) c.loop-index.invariant ∙ front-more to words i within in
    elim c.match-mended.branch [
      | in-Some w ↦ w.roots-is
          ∙ (w.set_root.ensures
          ∙ (word-set to now i w.in-Some.word
          (word-answer to c.root.result w.in-Some.word (get_or now i 0) c.mended.result c.mended.ensures c.root.ensures w.in-Some.is) ∙ next))
      | in_default w ↦ w.roots-is
          ∙ (word-kept to now i (no-answer to c.root.result (get_or now i 0) c.mended.result c.mended.ensures c.root.ensures w.in_default.is) ∙ next)
    ]

pub returns : goal.returns
returns c =
    c.loop-index.invariant
    ∙ front-all (moved_to c.args.moves.now) c.args.roots.now c.loop-index.index (omega (arith, c.loop-index-test.false, c.root_count-index-end.ensures))
