use Rattle.std.proofs.Common.{◌≡◌, ◌<◌, ap, subst, sym, ◌∙◌}
use Rattle.bal_cards.specs.Cards.{with_list_dirty}
use Rattle.bal_layout.specs.Addresses.{card_of, cards_of}
use Rattle.bal_layout.specs.Shape.{Shape}
use Rattle.bal_barrier.specs.Flush.{place_of}
use Rattle.bal_rebuild.proofs.OneSlot.{slot-dirtied, slot-inside, slot-other}
use Rattle.bal_table.proofs.Lemmas.{slot-below}
use Rattle.bal_rebuild.proofs.dirty_slot.Goals as goal

pub slot_place-requires : goal.slot_place-requires
slot_place-requires c =
    let s = c.args.slot.now in
    slot-below c.args.table.now s.holder s.number (place_of c.args.table.now s) c.geometry-geometry.ensures.limits c.requires.slot

pub dirty_list-requires : goal.dirty_list-requires
dirty_list-requires c =
    let shape : ◌≡◌ {A = Shape} c.geometry-geometry.result c.args.cards.now.shape = c.geometry-geometry.ensures.shape ∙ sym c.requires.shape in
    subst (λ (s : Shape). c.card_of.result < cards_of s) shape c.card_of.ensures.within

pub returns-in_default : goal.returns-in_default
returns-in_default c = slot-inside c.args.table.now c.args.into c.args.slot.now c.args.cards.now (sym c.in_default.ensures.into)

pub returns-then-unwrap_or-region : goal.returns-then-unwrap_or-region
returns-then-unwrap_or-region c =
    slot-dirtied c.args.table.now c.args.into c.args.slot.now c.args.cards.now c.dirty_list.new.self c.in-Some.region c.requires.slot (sym c.in-Some.ensures.into)
    (sym c.unwrap_or.ensures ∙ c.if-unwrap_or-region.true)
    (c.dirty_list.ensures ∙ ap (λ n. with_list_dirty n c.args.cards.now) (c.card_of.ensures.card ∙ ap card_of c.slot_place.ensures.place))

pub returns-else-unwrap_or-region : goal.returns-else-unwrap_or-region
returns-else-unwrap_or-region c =
    slot-other c.args.table.now c.args.into c.args.slot.now c.args.cards.now c.in-Some.region (sym c.in-Some.ensures.into)
    (λ meant. c.if-unwrap_or-region.false (c.unwrap_or.ensures ∙ meant))
