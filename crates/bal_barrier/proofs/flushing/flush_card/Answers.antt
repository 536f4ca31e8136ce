use Rattle.std.proofs.Common.{◌≡◌, List, ap, subst, sym, ◌∙◌, ◌++◌}
use Rattle.std.specs.List.{All}
use Rattle.bal_cards.specs.Cards.{Cards}
use Rattle.bal_table.specs.Slots.{IsSlot, slots_on}
use Rattle.bal_table.specs.Table.{Table}
use Rattle.bal_table.specs.declared.slots.Slot.{Slot}
use Rattle.bal_barrier.specs.Coverage.{IsCovered}
use Rattle.bal_barrier.specs.Flush.{notes_of, place_of, with_notes, with_states}
use Rattle.bal_barrier.proofs.Flushed.{card-slots, covered-flush}
use Rattle.bal_barrier.proofs.flushing.flush_card.Goals as goal

pub flush_slots-requires-clause-slots : goal.flush_slots-requires-clause-slots
flush_slots-requires-clause-slots c =
    let t = c.args.table.now in
    let are : c.as_slice.result.now ≡ slots_on t c.args.card =
    c.as_slice.ensures ∙ (c.card_slots.ensures.slots ∙ ap (λ (l : List Slot). l ++ slots_on t c.args.card) c.clear.ensures.list) in
    subst (All (λ (s : Slot). IsSlot t s.holder s.number (place_of t s))) (sym are) (card-slots t c.args.card c.geometry.ensures.limits)

pub returns-clause-covered : goal.returns-clause-covered
returns-clause-covered c = λ covered.
    let t = c.args.table.now in
    let are : c.as_slice.result.now ≡ slots_on t c.args.card =
    c.as_slice.ensures ∙ (c.card_slots.ensures.slots ∙ ap (λ (l : List Slot). l ++ slots_on t c.args.card) c.clear.ensures.list) in
    let table = c.flush_slots.ensures.table ∙ ap (λ (ss : List Slot). with_states t (with_notes c.args.limit t.regions (notes_of c.args.limit t t.regions ss))) are in
    let after = covered-flush c.args.limit t c.args.cards.now c.args.card c.geometry.ensures.limits c.requires.found covered in
    subst (λ (u : Table). IsCovered u c.clean_list.new.self) (sym table)
    (subst (λ (d : Cards). IsCovered (with_states t (with_notes c.args.limit t.regions (notes_of c.args.limit t t.regions (slots_on t c.args.card)))) d) (sym c.clean_list.ensures) after)
