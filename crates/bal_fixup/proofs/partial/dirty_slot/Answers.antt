use Rattle.std.proofs.Common.{ap, sym, ◌∙◌}
use Rattle.bal_cards.specs.Cards.{with_dirty}
use Rattle.bal_layout.specs.Addresses.{card_of}
use Rattle.bal_table.specs.Table.{word_at}
use Rattle.bal_fixup.proofs.Dirty.{slot-dirty, slot-null, slot-there}
use Rattle.bal_fixup.proofs.partial.dirty_slot.Goals as goal

pub returns-then-word-ne-NULL : goal.returns-then-word-ne-NULL
returns-then-word-ne-NULL c =
    let t = c.args.table.now in
    let place = c.slot_place-place.ensures.place in
    slot-dirty t c.args.address c.args.number c.args.cards.now c.dirty.new.self
    (slot-there t c.args.address c.args.number c.geometry-geometry.ensures.limits c.requires.slot)
    (λ null. c.if-word-ne-NULL.true (c.word.ensures ∙ (ap (word_at t) place ∙ null)))
    (c.dirty.ensures ∙ ap (λ k. with_dirty k c.args.cards.now) (c.card_of.ensures.card ∙ ap card_of place))

pub returns-else-word-ne-NULL : goal.returns-else-word-ne-NULL
returns-else-word-ne-NULL c =
    let t = c.args.table.now in
    slot-null t c.args.address c.args.number c.args.cards.now
    (ap (word_at t) (sym c.slot_place-place.ensures.place) ∙ (sym c.word.ensures ∙ c.if-word-ne-NULL.false))
