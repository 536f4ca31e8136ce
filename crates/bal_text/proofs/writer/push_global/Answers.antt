use Rattle.std.proofs.Common.{subst}
use Rattle.bal_base.specs.Text.{Writes}
use Rattle.bal_base.proofs.Lemmas.{writes-then}
use Rattle.bal_text.proofs.WriterFacts.{global_pieces}
use Rattle.bal_text.proofs.writer.push_global.Goals as goal

pub returns : goal.returns
returns g c =
    let tells = g.T.Text.tells in
    let then = writes-then tells in
    let dead = rw c.as_slice.ensures at c.push_items.ensures in
    let packed = rw c.as_slice-2.ensures at c.push_items-2.ensures in
    subst (Writes tells _ _) (global_pieces c.args.dead.now.list c.args.packed.now.list)
    (then _ _ _ _ _ c.append.ensures (then _ _ _ _ _ dead (then _ _ _ _ _ c.append-2.ensures (then _ _ _ _ _ packed c.append-3.ensures))))
