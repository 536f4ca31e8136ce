use Rattle.std.proofs.Common.{◌≡◌, ◌+◌, ap, map, sym, subst, refl}
use Rattle.std.specs.Prelude.{Some}
use Rattle.bal_model.specs.declared.event.Answer.TheVariants as answers
use Rattle.bal_model.specs.Entries.{entry_of}
use Rattle.bal_model.specs.declared.row.Reply.TheVariants as replies
use Rattle.bal_heap.specs.Heap.{MayEndBy, Tells, IsNext, Told, allocation_event}
use Rattle.bal_heap.specs.Turns.{done_of}
use Rattle.bal_heap.specs.Meets.{IsMet, told_by}
use Rattle.bal_heap.specs.Request.{request_of}
use Rattle.bal_heap.proofs.HeapFacts.{allocated, few-made, found-room, told-more}
use Rattle.bal_heap.proofs.RequestFacts.{piece-asked}
use Rattle.bal_heap.proofs.heap.Heap.place.Goals as goal

-- what the heap has told in the end
abbrev after : goal.After-tell → Told
after c = record { config = c.self.inside.config; rows = c.tell.new.turns.rows; entries = map entry_of c.tell.new.events.list; objects = c.allocate-region.new.self }

tells : (c : goal.After-tell) → IsMet (after c) c.tell.new.turns × Tells (told_by c.self.inside) (after c) c.args.row (replies.Name c.allocate-region.result.0) (allocation_event (told_by c.self.inside) c.args.row c.args.request.now.want)
tells c =
    let a = c.self.inside in
    let r = c.args.row in
    let q = c.args.request.now in
    let region = c.allocate-region.result.1 in
    let next = subst (λ (x : Told). IsNext x r) (sym c.self.view_is) c.requires.next in
    let asks = subst (λ (x : Told). request_of x.config.geometry r.op ≡ Some q) (sym c.self.view_is) c.requires.asks in
    let may = subst (λ (x : Told). MayEndBy x r (allocation_event x r q.want)) (sym c.self.view_is) c.requires.may in
    let number = ap (λ n. n + 1) (c.self.invariant.met.done r.thread next.traced.in_range.0) in
    allocated (told_by a) (after c) a.turns c.tell.new.turns c.allocate-region.new.self r q c.find_room-room.result c.allocate-region.result.0 region c.self.invariant.met next asks
    (piece-asked a.config.geometry r.op q next.traced.built asks) may
    (found-room a.objects.table q.want c.find_room-room.result c.find_room-room.ensures c.in_default.not-Nowhere)
    c.allocate-region.ensures c.tell.ensures.turns
    (told-more (told_by a) a.turns c.tell.new.turns c.allocate-region.new.self a.journal.events.list c.tell.new.events.list c.reserve.new.self.list r.thread (done_of c.self.inside.turns r.thread + 1) r.op
    (answers.Placed c.allocate-region.result.0 region)
    refl c.tell.ensures.turns c.in_ok-reserve.ensures.list c.tell.ensures.told number)

pub invariant_of-self-2 : goal.invariant_of-self-2
invariant_of-self-2 c = record { met = (tells c).0; marks = c.self.invariant.marks; moves = c.self.invariant.moves }

pub returns : goal.returns
returns c = record {
  ok = subst (λ (x : Told). Tells x (after c) c.args.row (replies.Name c.allocate-region.result.0) (allocation_event x c.args.row c.args.request.now.want)) c.self.view_is (tells c).1;
  err = tt;
}

pub allocate-region-requires-clause-few : goal.allocate-region-requires-clause-few
allocate-region-requires-clause-few c =
    few-made (told_by c.self.inside) c.self.inside.turns c.args.row c.self.invariant.met (subst (λ (x : Told). IsNext x c.args.row) (sym c.self.view_is) c.requires.next)
