use Rattle.std.proofs.Common.{◌+◌, ap, map, sym, subst, refl}
use Rattle.std.specs.Prelude.{IsSome}
use Rattle.bal_model.specs.declared.row.Reply.TheVariants as replies
use Rattle.bal_model.specs.declared.event.Answer.TheVariants as answers
use Rattle.bal_model.specs.Entries.{entry_of}
use Rattle.bal_rules.specs.Path.{full_event}
use Rattle.bal_rules.specs.RowEvents.{want_of}
use Rattle.bal_heap.specs.Heap.{MayEndBy, Tells, IsNext, Told, turn_of}
use Rattle.bal_heap.specs.Turns.{done_of}
use Rattle.bal_heap.specs.Meets.{IsMet, told_by}
use Rattle.bal_heap.proofs.HeapFacts.{refused-full, told-more}
use Rattle.bal_heap.proofs.heap.Heap.refuse.Goals as goal

-- what the heap has told in the end
abbrev after : goal.After-tell → Told
after c = record { config = c.self.inside.config; rows = c.tell.new.turns.rows; entries = map entry_of c.tell.new.events.list; objects = c.self.inside.objects }

tells : (c : goal.After-tell) → IsMet (after c) c.tell.new.turns × Tells (told_by c.self.inside) (after c) c.args.row replies.Full (full_event (turn_of (told_by c.self.inside) c.args.row))
tells c =
    let a = c.self.inside in
    let r = c.args.row in
    let next = subst (λ (x : Told). IsNext x r) (sym c.self.view_is) c.requires.next in
    let asks = subst (λ (x : Told). IsSome (want_of x.config.geometry r.op)) (sym c.self.view_is) c.requires.asks in
    let may = subst (λ (x : Told). MayEndBy x r (full_event (turn_of x r))) (sym c.self.view_is) c.requires.may in
    let number = ap (λ n. n + 1) (c.self.invariant.met.done r.thread next.traced.in_range.0) in
    refused-full (told_by a) (after c) a.turns c.tell.new.turns r c.self.invariant.met next asks may c.tell.ensures.turns
    (told-more (told_by a) a.turns c.tell.new.turns a.objects a.journal.events.list c.tell.new.events.list c.reserve.new.self.list r.thread (done_of c.self.inside.turns r.thread + 1) r.op (answers.Replied replies.Full)
    refl c.tell.ensures.turns c.in_ok-reserve.ensures.list c.tell.ensures.told number)

pub invariant_of-self-2 : goal.invariant_of-self-2
invariant_of-self-2 c = record { met = (tells c).0; marks = c.self.invariant.marks; moves = c.self.invariant.moves }

pub returns-clause-ok : goal.returns-clause-ok
returns-clause-ok c = subst (λ (x : Told). Tells x (after c) c.args.row replies.Full (full_event (turn_of x c.args.row))) c.self.view_is (tells c).1
