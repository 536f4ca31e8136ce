use Rattle.std.proofs.Common.{[], Err, Ok, OnErr, Result, ap, subst, sym, ◌∙◌}
use Rattle.std.specs.Prelude.{option_map}
use Rattle.bal_rules.specs.Path.{opened}
use Rattle.bal_heap.specs.Flush.{slots_noted}
use Rattle.bal_heap.specs.Heap.{Breaks, Told}
use Rattle.bal_heap.specs.Meets.{IsMet}
use Rattle.bal_heap.specs.declared.request.Request.{Request}
use Rattle.bal_heap.proofs.Comes.{comes-breaks, comes-flushed, flush-next}
use Rattle.bal_heap.proofs.FlushMore.{lacks-flushed}
use Rattle.bal_heap.proofs.RequestFacts.{want-asked}
use Rattle.bal_heap.proofs.RoomMade.{came-breaks, came-collected, came-may, came-next, came-soft}
use Rattle.bal_heap.proofs.heap.Heap.make_room.Goals as goal

-- what is answered where a call was refused memory
on-err : {A E : Type 0} {P : Type 0} (r : Result A E) → P → OnErr r P
on-err (Ok a) p = tt
on-err (Err e) p = p

pub returns-in_err-flush-clause-err : goal.returns-in_err-flush-clause-err
returns-in_err-flush-clause-err c =
    let f = c.flush.ensures.told in
    on-err c.from_residual.result
    (comes-breaks c.args.self.now c.flush.new.self c.args.row.now (opened (slots_noted f.notes [])) (comes-flushed c.args.self.now c.flush.new.self c.args.row.now f) c.requires.next)

pub evacuate-requires-clause-next : goal.evacuate-requires-clause-next
evacuate-requires-clause-next c = flush-next c.args.self.now c.flush.new.self c.args.row.now c.requires.next c.flush.ensures.told

pub evacuate-requires-clause-lacks : goal.evacuate-requires-clause-lacks
evacuate-requires-clause-lacks c = lacks-flushed c.args.self.now c.flush.new.self c.args.row.now c.flush.ensures.told c.requires.lacks

pub returns-in_err-evacuate-clause-err : goal.returns-in_err-evacuate-clause-err
returns-in_err-evacuate-clause-err c =
    let f = c.flush.ensures.told in
    on-err c.from_residual-in_err-evacuate.result
    (subst (λ (x : Told). Breaks c.args.self.now x c.args.row.now.thread) (sym c.in_err-evacuate.ensures.err)
    (comes-breaks c.args.self.now c.flush.new.self c.args.row.now (opened (slots_noted f.notes [])) (comes-flushed c.args.self.now c.flush.new.self c.args.row.now f) c.requires.next))

-- A partial collection was made.

pub collect-requires-clause-next : goal.collect-requires-clause-next
collect-requires-clause-next c =
    came-next c.args.self.now c.flush.new.self c.evacuate.new.self c.self.inside.turns c.args.row.now c.args.request.now.want
    (subst (λ (x : Told). IsMet x c.self.inside.turns) c.self.view_is c.self.invariant.met) c.requires.next c.flush.ensures.told c.in_ok-evacuate.ensures.ok c.requires.lacks
    (want-asked c.args.self.now.config.geometry c.args.row.now.op ∙ ap (option_map (λ (q : Request). q.want)) c.requires.asks)

pub collect-requires-clause-may : goal.collect-requires-clause-may
collect-requires-clause-may c =
    came-may c.args.self.now c.flush.new.self c.evacuate.new.self c.self.inside.turns c.args.row.now c.args.request.now.want
    (subst (λ (x : Told). IsMet x c.self.inside.turns) c.self.view_is c.self.invariant.met) c.requires.next c.flush.ensures.told c.in_ok-evacuate.ensures.ok c.requires.lacks
    (want-asked c.args.self.now.config.geometry c.args.row.now.op ∙ ap (option_map (λ (q : Request). q.want)) c.requires.asks)
    (sym c.if-lacks_room.ensures)

pub returns-in_err-collect-clause-err : goal.returns-in_err-collect-clause-err
returns-in_err-collect-clause-err c =
    on-err c.from_residual-in_err-collect.result
    (subst (λ (x : Told). Breaks c.args.self.now x c.args.row.now.thread) (sym c.in_err-collect.ensures.err)
    (came-breaks c.args.self.now c.flush.new.self c.evacuate.new.self c.self.inside.turns c.args.row.now c.args.request.now.want
    (subst (λ (x : Told). IsMet x c.self.inside.turns) c.self.view_is c.self.invariant.met) c.requires.next c.flush.ensures.told c.in_ok-evacuate.ensures.ok c.requires.lacks
    (want-asked c.args.self.now.config.geometry c.args.row.now.op ∙ ap (option_map (λ (q : Request). q.want)) c.requires.asks)))

pub returns-in_ok-collect-clause-ok : goal.returns-in_ok-collect-clause-ok
returns-in_ok-collect-clause-ok c =
    came-collected c.args.self.now c.flush.new.self c.evacuate.new.self c.self.inside.turns c.args.row.now c.args.request.now.want
    (subst (λ (x : Told). IsMet x c.self.inside.turns) c.self.view_is c.self.invariant.met) c.requires.next c.flush.ensures.told c.in_ok-evacuate.ensures.ok c.requires.lacks
    (want-asked c.args.self.now.config.geometry c.args.row.now.op ∙ ap (option_map (λ (q : Request). q.want)) c.requires.asks)
    (sym c.if-lacks_room.ensures) c.collect.new.self c.in_ok-collect.ensures.ok

pub returns-else-lacks_room-clause-ok : goal.returns-else-lacks_room-clause-ok
returns-else-lacks_room-clause-ok c =
    came-soft c.args.self.now c.flush.new.self c.evacuate.new.self c.self.inside.turns c.args.row.now c.args.request.now.want
    (subst (λ (x : Told). IsMet x c.self.inside.turns) c.self.view_is c.self.invariant.met) c.requires.next c.flush.ensures.told c.in_ok-evacuate.ensures.ok c.requires.lacks
    (want-asked c.args.self.now.config.geometry c.args.row.now.op ∙ ap (option_map (λ (q : Request). q.want)) c.requires.asks)
    (sym c.if-lacks_room.ensures)
