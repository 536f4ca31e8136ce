use Rattle.std.proofs.Common.{◌+◌, ◌<◌, ◌∙◌, List, Option, ℕ, ap, arith, get_or, length, set, subst, sym}
use Rattle.std.proofs.lemmas.List.{get_or_default}
use Rattle.std.specs.Prelude.{unwrap_or}
use Rattle.bal_base.specs.Bits.{is_member}
use Rattle.bal_table.specs.Moves.{moved_to}
use Rattle.bal_table.proofs.InPlace.{IsInPlace, in-place-no, in-place-yes}
use Rattle.bal_table.proofs.remap.keep_moved.Goals as goal

pub loop-i-preserved-then-not-contains : goal.loop-i-preserved-then-not-contains
loop-i-preserved-then-not-contains c =
    let p = is_member c.args.bits.now.members in
    let xs = c.args.order.now.list in
    let ys = c.loop-i.order.list in
    let i = c.loop-i.i in
    let h = c.loop-i.invariant.place in
    let inside : i < length ys = omega (arith, h.long, c.len-i-end.ensures) in
    let x = get_or c.as_slice.result.now i 0 in
    let is = ap (λ (l : List ℕ). get_or l i 0) c.as_slice.ensures ∙ get_or_default ys i 0 x inside in
    record {
      place = in-place-no p (moved_to c.args.moves.now) xs ys c.loop-i.kept i h x inside is (sym c.if-not-contains.ensures);
      spare = c.loop-i.invariant.spare;
    }

pub loop-i-preserved : goal.loop-i-preserved
loop-i-preserved c =
    let p = is_member c.args.bits.now.members in
    let f = moved_to c.args.moves.now in
    let xs = c.args.order.now.list in
    let ys = c.loop-i.order.list in
    let i = c.loop-i.i in
    let k = c.loop-i.kept in
    let h = c.loop-i.invariant.place in
    let inside : i < length ys = omega (arith, h.long, c.len-i-end.ensures) in
    let x = get_or c.as_slice.result.now i 0 in
    let is = ap (λ (l : List ℕ). get_or l i 0) c.as_slice.ensures ∙ get_or_default ys i 0 x inside in
    let list = c.set.ensures.list ∙ ap (set ys k) (c.unwrap_or.ensures ∙ ap (λ (o : Option ℕ). unwrap_or o x) c.to.ensures.to) in
    record {
      place = subst (λ (l : List ℕ). IsInPlace p f xs l (k + 1) (i + 1)) (sym list)
          (in-place-yes p f xs ys k i h x inside is (sym c.if-not-contains.ensures));
      spare = c.set.ensures.spare ∙ c.loop-i.invariant.spare;
    }
