use Rattle.std.proofs.Common.{length, refl, sym}
use Rattle.bal_text.proofs.Readings.{no_more, no_room, none_taken, one_more}
use Rattle.bal_text.proofs.reader.items.items_at.Goals as goal

pub loop-init : goal.loop-init
loop-init g c = none_taken g.W.Listed.reading c.args.text.now _ _ c.in_ok-items.ensures refl

pub returns-in_default : goal.returns-in_default
returns-in_default g c =
    let l = c.loop in
    no_more g.W.Listed.reading _ l.items.list (length c.args.text.now) l.counter l.rest.now c.loop-test.true l.invariant (sym c.in_default.ensures)

pub loop-preserved : goal.loop-preserved
loop-preserved g c =
    let l = c.loop in
    rw c.in_ok-append.ensures.ok
    (one_more g.W.Listed.reading _ l.items.list (length c.args.text.now) l.counter l.rest.now c.loop-test.true l.invariant c.in-Some.item c.in-Some.after.now (sym c.in-Some.ensures))

pub returns : goal.returns
returns g c = no_room g.W.Listed.reading _ c.loop.items.list (length c.args.text.now) c.loop.counter c.loop.rest.now c.loop-test.false c.loop.invariant
