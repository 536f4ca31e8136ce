use Rattle.std.proofs.Common.{◌≡◌, ◌<◌, ap, subst, sym, ◌∙◌}
use Rattle.bal_cards.specs.Cards.{with_dirty}
use Rattle.bal_fixup.specs.Mended.{IsReference}
use Rattle.bal_fixup.proofs.Placing.{mended-is, mended-none}
use Rattle.bal_layout.specs.Addresses.{IsAddress, cards_of}
use Rattle.bal_layout.specs.Shape.{Shape}
use Rattle.bal_table.specs.Moves.{moved_to}
use Rattle.bal_table.proofs.Lemmas.{Lies, slot-lies_at}
use Rattle.bal_fixup.proofs.partial.fix_place.Goals as goal
use Rattle.bal_fixup.proofs.partial.fix_place.Goals.{After-geometry-geometry, in-Some, in_default}

lies : (c : After-geometry-geometry) → Lies c.args.table.now c.requires.slot.0 c.requires.slot.1 c.args.place
lies c = slot-lies_at c.args.table.now c.requires.slot.0 c.requires.slot.1 c.args.place c.geometry-geometry.ensures.limits c.requires.slot.2

pub word-requires : goal.word-requires
word-requires c = (lies (goal.at.word-requires c).After-geometry-geometry).address

pub mended-requires : goal.mended-requires
mended-requires c = subst IsReference (sym c.word.ensures) c.requires.reference

pub set_word-requires-clause-within : goal.set_word-requires-clause-within
set_word-requires-clause-within c = (lies (goal.at.set_word-requires-clause-within c).After-geometry-geometry).address

pub set_word-requires-clause-behind : goal.set_word-requires-clause-behind
set_word-requires-clause-behind c = (lies (goal.at.set_word-requires-clause-behind c).After-geometry-geometry).writable

pub card_of-requires : goal.card_of-requires
card_of-requires c =
    subst (λ (s : Shape). IsAddress s c.args.place) (sym c.geometry-geometry.ensures.shape) (lies (goal.at.card_of-requires c).After-geometry-geometry).address

pub dirty-requires : goal.dirty-requires
dirty-requires c =
    let shape : ◌≡◌ {A = Shape} c.geometry-geometry.result c.args.cards.now.shape = c.geometry-geometry.ensures.shape ∙ sym c.requires.shape in
    subst (λ (s : Shape). c.card_of.result < cards_of s) shape c.card_of.ensures.within

pub returns-clause-mended : goal.returns-clause-mended
returns-clause-mended c =
    let to = moved_to c.args.moves.now in
    elim c.match-mended.branch [
      | in-Some w ↦ mended-is to c.args.table.now c.match-mended.table c.args.place w.in-Some.word c.word.result c.mended.result
          c.word.ensures c.mended.ensures w.in-Some.is (w.table-is ∙ w.set_word.ensures)
      | in_default w ↦ w.table-is ∙ mended-none to c.args.table.now c.args.place c.word.result c.mended.result c.word.ensures c.mended.ensures w.in_default.is
    ]

pub returns-clause-dirty : goal.returns-clause-dirty
returns-clause-dirty c = c.dirty.ensures ∙ ap (λ k. with_dirty k c.args.cards.now) c.card_of.ensures.card
