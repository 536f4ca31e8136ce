use Rattle.std.proofs.Common.{◌≡◌, ◌∷◌, ◌++◌, [], List, ap, map, subst, sym, ◌∙◌}
use Rattle.std.proofs.lemmas.List.{map-append}
use Rattle.bal_model.specs.declared.event.Event.{Event}
use Rattle.bal_model.specs.declared.event.Event.TheVariants as event
use Rattle.bal_model.specs.declared.event.PartialCollection.{PartialCollection}
use Rattle.bal_model.specs.Entries.{Entry, entry_of}
use Rattle.bal_heap.specs.Heap.{Evacuates, IsNext, LacksRoom, Told}
use Rattle.bal_heap.specs.Meets.{IsMet, told_by}
use Rattle.bal_heap.proofs.Ready.{evacuate-met, evacuates, evacuating}
use Rattle.bal_heap.proofs.heap.Heap.evacuate.Goals as goal

-- what was told, and what the heap has told in the end
abbrev did : goal.After-push → PartialCollection
did c = c.in_ok-told-2.field-0

abbrev after : goal.After-push → Told
after c = record { config = c.self.inside.config; rows = c.self.inside.turns.rows; entries = map entry_of c.push.new.self.list; objects = c.evacuate.new.self }

after-is : (c : goal.After-push) → after c ≡ evacuating (told_by c.self.inside) c.evacuate.new.self (did c).chosen.list (did c).scans (did c).kept.list (did c).aborts.list
after-is c =
    let e : Event = event.Partial (record c.in_ok-told.told { value = did c }) in
    ap (λ (es : List Entry). record { config = c.self.inside.config; rows = c.self.inside.turns.rows; entries = es; objects = c.evacuate.new.self })
    (ap (map entry_of) (c.push.ensures.list ∙ ap (λ (es : List Event). es ++ e ∷ []) c.in_ok-reserve.ensures.list)
    ∙ map-append entry_of c.self.inside.journal.events.list (e ∷ []))

pub invariant_of-self-2 : goal.invariant_of-self-2
invariant_of-self-2 c = record {
  met = subst (λ (x : Told). IsMet x c.self.inside.turns) (sym (after-is c))
      (evacuate-met (told_by c.self.inside) c.self.inside.turns c.evacuate.new.self (did c).chosen.list (did c).scans (did c).kept.list (did c).aborts.list
      c.self.invariant.met c.in_ok-told-2.ensures.ok c.evacuate.ensures.shape c.args.row.now
      (subst (λ (x : Told). IsNext x c.args.row.now) (sym c.self.view_is) c.requires.next)
      (subst (λ (x : Told). LacksRoom x c.args.row.now) (sym c.self.view_is) c.requires.lacks));
  marks = c.self.invariant.marks;
  moves = c.evacuate.ensures.moves ∙ c.self.invariant.moves;
}

pub returns-clause-ok : goal.returns-clause-ok
returns-clause-ok c =
    subst (λ (x : Told). Evacuates x (after c)) c.self.view_is
    (subst (Evacuates (told_by c.self.inside)) (sym (after-is c))
    (evacuates (told_by c.self.inside) c.self.inside.turns c.evacuate.new.self (did c).chosen.list (did c).scans (did c).kept.list (did c).aborts.list
    c.self.invariant.met c.in_ok-told-2.ensures.ok c.evacuate.ensures.shape))
