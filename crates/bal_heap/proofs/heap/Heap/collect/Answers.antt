use Rattle.std.proofs.Common.{◌≡◌, ◌∷◌, ◌++◌, [], List, ap, map, subst, sym, ◌∙◌}
use Rattle.std.proofs.lemmas.List.{map-append}
use Rattle.bal_model.specs.declared.event.Event.{Event}
use Rattle.bal_model.specs.declared.event.Event.TheVariants as event
use Rattle.bal_model.specs.Entries.{Entry, entry_of}
use Rattle.bal_heap.specs.Heap.{Collects, MayCompact, Told}
use Rattle.bal_heap.specs.Meets.{IsMet, told_by}
use Rattle.bal_heap.proofs.Ready.{collect-met, collecting, collects}
use Rattle.bal_heap.proofs.heap.Heap.collect.Goals as goal

-- what the heap has told in the end
abbrev after : goal.After-push → Told
after c = record { config = c.self.inside.config; rows = c.self.inside.turns.rows; entries = map entry_of c.push.new.self.list; objects = c.collect.new.self }

after-is : (c : goal.After-push) → after c ≡ collecting (told_by c.self.inside) c.collect.new.self c.collect.new.dead.list c.collect.new.packed.list
after-is c =
    let e : Event = event.Global c.collect.new.dead c.collect.new.packed in
    ap (λ (es : List Entry). record { config = c.self.inside.config; rows = c.self.inside.turns.rows; entries = es; objects = c.collect.new.self })
    (ap (map entry_of) (c.push.ensures.list ∙ ap (λ (es : List Event). es ++ e ∷ []) c.in_ok-reserve-3.ensures.list)
    ∙ map-append entry_of c.self.inside.journal.events.list (e ∷ []))

pub invariant_of-self-2 : goal.invariant_of-self-2
invariant_of-self-2 c = record {
  met = subst (λ (x : Told). IsMet x c.self.inside.turns) (sym (after-is c))
      (collect-met (told_by c.self.inside) c.self.inside.turns c.collect.new.self c.collect.new.dead.list c.collect.new.packed.list c.self.invariant.met
      c.collect.ensures.global c.collect.ensures.shape c.args.row.now (subst (λ (x : Told). MayCompact x c.args.row.now) (sym c.self.view_is) c.requires.may));
  marks = c.collect.ensures.marks ∙ c.self.invariant.marks;
  moves = c.collect.ensures.moves ∙ c.self.invariant.moves;
}

pub returns-clause-ok : goal.returns-clause-ok
returns-clause-ok c =
    subst (λ (x : Told). Collects x (after c)) c.self.view_is
    (subst (Collects (told_by c.self.inside)) (sym (after-is c))
    (collects (told_by c.self.inside) c.self.inside.turns c.collect.new.self c.collect.new.dead.list c.collect.new.packed.list c.self.invariant.met
    c.collect.ensures.global c.collect.ensures.shape))
