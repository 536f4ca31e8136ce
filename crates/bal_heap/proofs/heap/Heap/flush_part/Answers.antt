use Rattle.std.proofs.Common.{◌≡◌, ◌++◌, All, List, [], ap, map, subst, sym, ◌∙◌}
use Rattle.std.specs.Prelude.{IsSome}
use Rattle.bal_barrier.specs.declared.note.Note.{Note}
use Rattle.bal_model.specs.Entries.{entry_of}
use Rattle.bal_table.specs.Table.{Table, things_of}
use Rattle.bal_heap.specs.Flush.{Flushes, entry_for}
use Rattle.bal_heap.specs.Heap.{IsNext, LacksRoom, Told}
use Rattle.bal_heap.specs.Meets.{told_by}
use Rattle.bal_heap.specs.Objects.{AreOnBoard, Objects}
use Rattle.bal_heap.proofs.FlushFacts.{flush-met, no-flush}
use Rattle.bal_heap.proofs.FlushMore.{flush-more, new-holders, noting_more, part-told}
use Rattle.bal_heap.proofs.heap.Heap.flush_part.Goals as goal
use Rattle.bal_heap.proofs.heap.Heap.flush_part.Goals.{After-flush-flushed}

-- there were no notes when the flush began
none : (c : goal.After-flush-flushed) → c.reserve-2.new.self.list ≡ []
none c = c.in_ok-reserve-2.ensures.list ∙ c.clear-2.ensures.list

-- so all that stand there are of the flush
made : (c : goal.After-flush-flushed) → c.flush-flushed.new.notes.list ≡ c.flush-flushed.ensures.flushed.made
made c = c.flush-flushed.ensures.flushed.told ∙ ap (λ (ns : List Note). ns ++ c.flush-flushed.ensures.flushed.made) (none c)

pub tell-requires-clause-holders : goal.tell-requires-clause-holders
tell-requires-clause-holders c =
    let d : goal.After-flush-flushed = (goal.at.tell-requires-clause-holders c).After-flush-flushed in
    let f = c.flush-flushed.ensures.flushed in
    let o = c.self.inside.objects in
    subst (λ (ns : List Note). All (λ (n : Note). IsSome (things_of c.flush-flushed.new.self.table n.holder)) ns) (sym (c.as_slice.ensures ∙ made d))
    (subst (λ (w : Table). All (λ (n : Note). IsSome (things_of w n.holder)) f.made) (sym f.remembered)
    (new-holders c.self.inside.config.cards o.table o.table.regions f.made c.self.invariant.met.meets.objects_are.table f.new))

-- what the heap has told in the end
abbrev after : goal.After-tell → Told
after c = record { config = c.self.inside.config; rows = c.self.inside.turns.rows; entries = map entry_of c.tell.new.events.list; objects = c.flush-flushed.new.self }

after-is : (c : goal.After-tell) → after c
    ≡ noting_more (told_by c.self.inside) c.flush-flushed.new.self.table c.flush-flushed.new.self.cards c.flush-flushed.ensures.flushed.made
after-is c =
    let a = c.self.inside in
    let o = c.flush-flushed.new.self in
    part-told (told_by a) o c.reserve-2.new.self.list c.flush-flushed.new.notes.list (map entry_of c.tell.new.events.list) c.flush-flushed.ensures.flushed
    (c.in_ok-reserve-2.ensures.list ∙ c.clear-2.ensures.list) c.flush-flushed.ensures.words
    (c.tell.ensures ∙ (ap (λ es. map entry_of es ++ map (entry_for o.table) c.as_slice.result.now) c.in_ok-reserve-3.ensures.list
    ∙ ap (λ (ns : List Note). map entry_of a.journal.events.list ++ map (entry_for o.table) ns) c.as_slice.ensures))

told : (c : goal.After-tell) (before : Told) → Flushes before (told_by c.self.inside) c.args.row.now → Flushes before (after c) c.args.row.now
told c before f =
    let a = c.self.inside in
    let r = c.args.row.now in
    let o = c.flush-flushed.new.self in
    subst (λ (x : Told). Flushes before x r) (sym (after-is c))
    (flush-more before (told_by a) r o.table o.cards c.flush-flushed.ensures.flushed.made f
    (subst (λ (x : Told). LacksRoom x r) (sym c.self.view_is) c.requires.lacks)
    c.flush-flushed.ensures.flushed.remembered c.flush-flushed.ensures.flushed.new
    (λ b h. subst (λ (x : Objects). AreOnBoard x (record b { regions = o.table.regions })) c.flush-flushed.ensures.words (c.flush-flushed.ensures.meets b h)))

pub invariant_of-self-2 : goal.invariant_of-self-2
invariant_of-self-2 c =
    let a = c.self.inside in
    let r = c.args.row.now in
    record {
      met = flush-met (told_by a) (after c) a.turns r c.self.invariant.met (subst (λ (x : Told). IsNext x r) (sym c.self.view_is) c.requires.next)
          (told c (told_by a) (no-flush (told_by a) r c.self.invariant.met.meets));
      marks = c.self.invariant.marks;
      moves = c.self.invariant.moves;
    }

pub returns-clause-told : goal.returns-clause-told
returns-clause-told c = λ before f. told c before (subst (λ (x : Told). Flushes before x c.args.row.now) (sym c.self.view_is) f)
