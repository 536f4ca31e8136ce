use Rattle.std.proofs.Common.{subst}
use Rattle.bal_base.specs.Text.{Writes}
use Rattle.bal_base.proofs.Lemmas.{writes-then}
use Rattle.bal_model.specs.Entries.{reply_of, spot_of}
use Rattle.bal_text.proofs.WriterFacts.{row_piece, row_pieces}
use Rattle.bal_text.proofs.writer.push_row.Goals as goal

pub returns-then-is_empty : goal.returns-then-is_empty
returns-then-is_empty g c =
    let a = c.args in
    let front = rw (c.as_slice.ensures, c.put_row.ensures, c.put.ensures.list, c.clear.ensures.empty) at c.append.ensures in
    subst (Writes g.T.Text.tells _ _)
    (row_piece a.thread a.number a.op.now (reply_of a.answer.now) (spot_of a.answer.now) _ c.leaves_of-leaves.ensures c.if-is_empty.ensures) front

pub returns : goal.returns
returns g c =
    let a = c.args in
    let tells = g.T.Text.tells in
    let then = writes-then tells in
    let front = rw (c.as_slice-2.ensures, c.put_row-2.ensures, c.put-2.ensures.list, c.clear.ensures.empty) at c.append-2.ensures in
    subst (Writes tells _ _)
    (row_pieces a.thread a.number a.op.now (reply_of a.answer.now) (spot_of a.answer.now) _ c.leaves_of-leaves.ensures c.if-is_empty.ensures)
    (then _ _ _ _ _ front (then _ _ _ _ _ c.push_items.ensures c.append-3.ensures))
