use Rattle.std.proofs.Common.{append-nil, subst}
use Rattle.std.specs.Fmt.{decimal}
use Rattle.bal_base.specs.Text.{Writes}
use Rattle.bal_base.proofs.Lemmas.{writes-then}
use Rattle.bal_text.proofs.WriterFacts.{partial_pieces}
use Rattle.bal_text.proofs.writer.push_partial.Goals as goal

pub returns : goal.returns
returns g c =
    let tells = g.T.Text.tells in
    let then = writes-then tells in
    let chosen = rw c.as_slice.ensures at c.push_items.ensures in
    let scans = rw (c.as_slice-2.ensures, c.put_one.ensures.list, c.put.ensures.list, c.clear.ensures.empty, append-nil (decimal c.args.did.now.scans)) at c.append-2.ensures in
    let kept = rw c.as_slice-3.ensures at c.push_items-2.ensures in
    let aborts = rw c.as_slice-4.ensures at c.push_aborts.ensures in
    subst (Writes tells _ _) (partial_pieces c.args.did.now.chosen.list c.args.did.now.scans c.args.did.now.kept.list c.args.did.now.aborts.list)
    (then _ _ _ _ _ c.append.ensures
    (then _ _ _ _ _ chosen (then _ _ _ _ _ scans (then _ _ _ _ _ kept (then _ _ _ _ _ aborts c.append-3.ensures)))))
