use Rattle.std.proofs.Common.{◌<◌, Option, ap, arith, length, subst, sym, ◌∙◌}
use Rattle.std.specs.Prelude.{All}
use Rattle.std.proofs.lemmas.List.Elements.{All-set}
use Rattle.bal_fixup.specs.Mended.{AreReferences, IsReference}
use Rattle.bal_fixup.proofs.References.{references-updated}
use Rattle.bal_fixup.proofs.tests.point.Goals as goal
use Rattle.bal_layout.specs.References.{word_of}
use Rattle.bal_table.specs.Changes.{MayBeWritten, with_word_at}
use Rattle.bal_table.specs.Table.{Table, refs_in, slot_place, things_of}
use Rattle.bal_table.proofs.Lemmas.{reference-there, thing-referred}
use Rattle.bal_words.specs.Paths.{words_in}
use Rattle.bal_words.specs.Things.{Thing, with_ref}
use Rattle.bal_words.proofs.Lemmas.{there}

pub set_word-requires-clause-behind : goal.set_word-requires-clause-behind
set_word-requires-clause-behind c =
    subst (MayBeWritten c.args.table.now) (sym c.slot_place-place.ensures.place)
    (reference-there c.args.table.now c.args.from c.args.slot c.starts.ensures.table (omega (arith, c.slots.ensures, c.if-slot-slots.true))).1

pub returns-then-slot-slots : goal.returns-then-slot-slots
returns-then-slot-slots c =
    let t = c.args.table.now in
    let a = c.args.from in
    let slot = c.args.slot in
    let word = word_of c.args.to in
    let at = there (things_of t a) (c.starts.ensures.start c.if-starts.true) in
    let x = at.0 in
    let within : slot < length x.refs = omega (arith, c.if-slot-slots.true, c.slots.ensures, ap (λ (o : Option Thing). length (refs_in o)) at.1) in
    let update = thing-referred t a slot word x c.starts.ensures.table at.1 within in
    let refs = subst (λ (o : Option Thing). All IsReference (words_in o)) at.1 (c.requires.each a) in
    subst (λ (m : Table). AreReferences (things_of m))
    (sym (c.set_word.ensures ∙ (ap (λ p. with_word_at t p c.word_of.result) c.slot_place-place.ensures.place ∙ ap (with_word_at t (slot_place t a slot)) c.word_of.ensures)))
    (references-updated (things_of t) (things_of (with_word_at t (slot_place t a slot) word)) a (with_ref slot word x) c.requires update
    (All-set IsReference x.refs slot word (omega arith) refs))
