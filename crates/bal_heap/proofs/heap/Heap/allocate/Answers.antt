use Rattle.std.proofs.Common.{◌≡◌, IfOk, OnErr, Some, ap, subst, sym, ◌∙◌}
use Rattle.std.proofs.lemmas.Bool.{false≢true}
use Rattle.std.specs.Prelude.{option_map}
use Rattle.bal_rules.specs.RowEvents.{want_of}
use Rattle.bal_model.specs.declared.config.Config.{Config}
use Rattle.bal_heap.specs.Flush.{FlushedFirst}
use Rattle.bal_heap.specs.Heap.{Breaks, Executes, IsReady, LacksRoom, Told, allocation_event}
use Rattle.bal_heap.specs.Meets.{IsMet}
use Rattle.bal_heap.specs.Request.{request_of}
use Rattle.bal_heap.specs.declared.request.Request.{Request}
use Rattle.bal_heap.proofs.Ready.{flushed-told, may-end, ready-ends, ready-next, ready-soft}
use Rattle.bal_heap.proofs.RequestFacts.{want-asked}
use Rattle.bal_heap.proofs.heap.Heap.allocate.Goals as goal
use Rattle.bal_heap.proofs.heap.Heap.allocate.Goals.{then-lacks_room+in_ok-make_room, else-lacks_room}

met : (c : goal.After-place-arg-1) → IsMet c.args.self.now c.self.inside.turns
met c = subst (λ (x : Told). IsMet x c.self.inside.turns) c.self.view_is c.self.invariant.met

-- what the row asks for
asks : (c : goal.After-place-arg-1) → want_of c.args.self.now.config.geometry c.args.row.op ≡ Some c.args.request.now.want
asks c = want-asked c.args.self.now.config.geometry c.args.row.op ∙ ap (option_map (λ (q : Request). q.want)) c.requires.asks

-- the path of the row comes to where its own event may stand: at once, or once room was made
ready : (c : goal.After-place-arg-1) → IsReady c.args.self.now c.if-lacks_room.self c.args.row (allocation_event c.if-lacks_room.self c.args.row c.args.request.now.want)
ready c = elim c.if-lacks_room.branch [
  | then-lacks_room+in_ok-make_room w ↦
      subst (λ (x : Told). IsReady c.args.self.now x c.args.row (allocation_event x c.args.row c.args.request.now.want)) (sym w.self-is) w.in_ok-make_room.ensures.ok
  | else-lacks_room w ↦
      subst (λ (x : Told). IsReady c.args.self.now x c.args.row (allocation_event x c.args.row c.args.request.now.want)) (sym w.self-is)
      (ready-soft c.args.self.now c.self.inside.turns c.args.row c.args.request.now.want (met c) c.requires.next (asks c) (sym w.if-lacks_room.ensures))
]

-- and if it lacked room it began with the flush
first : (c : goal.After-place-arg-1) → LacksRoom c.args.self.now c.args.row → FlushedFirst c.args.self.now c.if-lacks_room.self c.args.row
first c lacks = elim c.if-lacks_room.branch [
  | then-lacks_room+in_ok-make_room w ↦ subst (λ (x : Told). FlushedFirst c.args.self.now x c.args.row) (sym w.self-is) w.in_ok-make_room.ensures.flushed
  | else-lacks_room w ↦ absurd (false≢true (w.if-lacks_room.ensures ∙ lacks))
]

pub place-requires-clause-next : goal.place-requires-clause-next
place-requires-clause-next c = ready-next c.args.self.now c.if-lacks_room.self c.args.row (ready c) c.requires.next

pub place-requires-clause-asks : goal.place-requires-clause-asks
place-requires-clause-asks c =
    subst (λ (x : Config). request_of x.geometry c.args.row.op ≡ Some c.args.request.now) (sym (ready c).comes.config) c.requires.asks

pub place-requires-clause-may : goal.place-requires-clause-may
place-requires-clause-may c =
    may-end c.args.self.now c.if-lacks_room.self c.self.inside.turns c.args.row (allocation_event c.if-lacks_room.self c.args.row c.args.request.now.want)
    (met c) c.requires.next (ready c)

ends : (c : goal.After-place) → IfOk c.place.result (Executes c.args.self.now c.place.new.self c.args.row.thread)
    × OnErr c.place.result (Breaks c.args.self.now c.place.new.self c.args.row.thread)
ends c =
    ready-ends c.args.self.now c.if-lacks_room.self c.place.new.self c.args.row (allocation_event c.if-lacks_room.self c.args.row c.args.request.now.want) c.place.result
    c.requires.next (ready c.before) c.place.ensures.ok c.place.ensures.err

pub returns-clause-ok : goal.returns-clause-ok
returns-clause-ok c = (ends c).0

pub returns-clause-err : goal.returns-clause-err
returns-clause-err c = (ends c).1

pub returns-clause-flushed : goal.returns-clause-flushed
returns-clause-flushed c =
    flushed-told c.args.self.now c.if-lacks_room.self c.place.new.self c.args.row (allocation_event c.if-lacks_room.self c.args.row c.args.request.now.want) c.place.result
    (first c.before) c.place.ensures.ok
