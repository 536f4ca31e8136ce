use Rattle.std.proofs.Common.{sym}
use Rattle.bal_text.proofs.OrderFacts.{ascends_fails, ascends_more}
use Rattle.bal_text.proofs.reader.order.ascend.Goals as goal

pub returns-then-not-is_before : goal.returns-then-not-is_before
returns-then-not-is_before g c =
    ascends_fails g.W.Ordered.before c.args.items.now c.loop-i.i _ _ c.loop-i.auto.i c.loop-i-test.true
    c.index-items-i.is c.index-items-i-in-loop-i.is (sym c.if-not-is_before.ensures)

pub loop-i-preserved : goal.loop-i-preserved
loop-i-preserved g c =
    ascends_more g.W.Ordered.before c.args.items.now c.loop-i.i _ _ c.loop-i.auto.i c.loop-i-test.true
    c.index-items-i.is c.index-items-i-in-loop-i.is c.loop-i.invariant (sym c.if-not-is_before.ensures)
