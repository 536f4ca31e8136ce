use Rattle.std.proofs.Common.{◌≡◌, ◌-◌, ◌++◌, ◌∙◌, ap, arith, length, sym, take_all, true}
use Rattle.std.specs.Prelude.{replicate, is_ok, vec_len}
use Rattle.bal_base.specs.Filling.{grown}
use Rattle.bal_base.proofs.Padded.{grown-all}
use Rattle.bal_base.proofs.filling.grow.Goals as goal

pub returns-then-end-len-clause-items : goal.returns-then-end-len-clause-items
returns-then-end-len-clause-items g c =
    let xs = c.args.items.now.items in
    sym (grown-all c.args.end c.args.item xs (omega (arith, c.if-end-len.true, c.len.ensures, c.args.items.now.ok.0)))

pub returns-clause-items : goal.returns-clause-items
unfolding grown
returns-clause-items g c =
    let xs = c.args.items.now.items in
    let long : vec_len c.args.items.now ≡ length xs = c.args.items.now.ok.0 in
    let ok : is_ok c.resize.result ≡ true = c.if-is_err.ensures.negation in
    let whole = take_all c.args.end xs (omega (arith, c.if-end-len.false, c.len.ensures, long)) in
    let items = rw ok at c.resize.ensures.items in
    items ∙ ap (λ l. l ++ replicate (c.args.end - vec_len c.args.items.now) c.args.item) whole
    ∙ ap (λ n. xs ++ replicate (c.args.end - n) c.args.item) long
