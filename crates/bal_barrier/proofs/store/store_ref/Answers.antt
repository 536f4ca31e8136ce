use Rattle.std.proofs.Common.{◌≡◌, ◌<◌, ◌∙◌, ap, subst, sym}
use Rattle.bal_cards.specs.Cards.{with_dirty}
use Rattle.bal_layout.specs.Addresses.{cards_of}
use Rattle.bal_layout.specs.Shape.{Shape}
use Rattle.bal_table.specs.Changes.{MayBeWritten}
use Rattle.bal_table.specs.Table.{things_of}
use Rattle.bal_table.proofs.Lemmas.{reference-lies}
use Rattle.bal_barrier.proofs.Covering.{after_store-null, after_store-some, covered-stored, has-slot}
use Rattle.bal_barrier.proofs.Targets.{lead-store}
use Rattle.bal_barrier.proofs.store.store_ref.Goals as goal

pub set_word-requires-clause-behind : goal.set_word-requires-clause-behind
set_word-requires-clause-behind c =
    let t = c.args.table.now in
    let x = has-slot (things_of t c.args.holder) c.args.slot c.requires.slot in
    let lies = reference-lies t c.args.holder c.args.slot x.0 c.geometry-geometry.ensures.limits x.1.0 x.1.1 in
    subst (MayBeWritten t) (sym c.slot_place-place.ensures.place) lies.1

pub dirty-requires : goal.dirty-requires
dirty-requires c =
    let shape : ◌≡◌ {A = Shape} c.geometry-geometry.result c.args.cards.now.shape = c.geometry-geometry.ensures.shape ∙ sym c.requires.shape in
    subst (λ (s : Shape). c.card_of.result < cards_of s) shape c.card_of.ensures.within

pub returns-then-word-ne-NULL-clause-covered : goal.returns-then-word-ne-NULL-clause-covered
returns-then-word-ne-NULL-clause-covered c =
    covered-stored c.args.table.now c.set_word.new.self c.args.cards.now c.dirty.new.self c.args.holder c.args.slot c.slot_place-place.result c.args.word
    c.geometry-geometry.ensures.limits c.requires.slot c.slot_place-place.ensures.place c.set_word.ensures
    (c.dirty.ensures ∙ (ap (λ n. with_dirty n c.args.cards.now) c.card_of.ensures.card ∙ sym (after_store-some _ _ _ c.if-word-ne-NULL.true)))

pub returns-else-word-ne-NULL-clause-covered : goal.returns-else-word-ne-NULL-clause-covered
returns-else-word-ne-NULL-clause-covered c =
    covered-stored c.args.table.now c.set_word.new.self c.args.cards.now c.args.cards.now c.args.holder c.args.slot c.slot_place-place.result c.args.word
    c.geometry-geometry.ensures.limits c.requires.slot c.slot_place-place.ensures.place c.set_word.ensures
    (sym (after_store-null _ _ _ c.if-word-ne-NULL.false))

pub returns-then-word-ne-NULL-clause-found : goal.returns-then-word-ne-NULL-clause-found
returns-then-word-ne-NULL-clause-found c =
    lead-store c.args.table.now c.set_word.new.self c.args.holder c.args.slot c.slot_place-place.result c.args.word
    c.geometry-geometry.ensures.limits c.requires.slot c.slot_place-place.ensures.place c.set_word.ensures

pub returns-else-word-ne-NULL-clause-found : goal.returns-else-word-ne-NULL-clause-found
returns-else-word-ne-NULL-clause-found c =
    lead-store c.args.table.now c.set_word.new.self c.args.holder c.args.slot c.slot_place-place.result c.args.word
    c.geometry-geometry.ensures.limits c.requires.slot c.slot_place-place.ensures.place c.set_word.ensures
