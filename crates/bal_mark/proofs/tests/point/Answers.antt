use Rattle.std.proofs.Common.{◌<◌, Option, ap, arith, length, refl, subst, sym, ◌∙◌}
use Rattle.std.specs.Prelude.{All}
use Rattle.std.proofs.lemmas.List.Elements.{All-set}
use Rattle.bal_layout.specs.References.{word_of}
use Rattle.bal_table.specs.Changes.{MayBeWritten, with_word_at}
use Rattle.bal_table.specs.Table.{Table, refs_in, slot_place, things_of}
use Rattle.bal_table.proofs.Lemmas.{reference-there, thing-referred}
use Rattle.bal_words.specs.Paths.{words_in}
use Rattle.bal_words.specs.Shown.{Finds}
use Rattle.bal_words.specs.Things.{Thing, with_ref}
use Rattle.bal_words.proofs.Lemmas.{there}
use Rattle.bal_mark.specs.Found.{AreFound}
use Rattle.bal_mark.proofs.FoundAfter.{found-updated, stay-written}
use Rattle.bal_mark.proofs.tests.point.Goals as goal

pub set_word-requires-clause-behind : goal.set_word-requires-clause-behind
set_word-requires-clause-behind c =
    subst (MayBeWritten c.args.table.now) (sym c.slot_place-place.ensures.place)
    (reference-there c.args.table.now c.args.from 1 c.starts.ensures.table (omega (arith, c.slots.ensures, c.if-slots-gt1.true))).1

pub returns-then-slots-gt1 : goal.returns-then-slots-gt1
returns-then-slots-gt1 c =
    let t = c.args.table.now in
    let a = c.args.from in
    let word = word_of c.args.to in
    let at = there (things_of t a) (c.starts.ensures.start c.if-starts.true) in
    let x = at.0 in
    let within : 1 < length x.refs = omega (arith, c.if-slots-gt1.true, c.slots.ensures, ap (λ (o : Option Thing). length (refs_in o)) at.1) in
    let y = with_ref 1 word x in
    let now = with_word_at t (slot_place t a 1) word in
    let update = thing-referred t a 1 word x c.starts.ensures.table at.1 within in
    let to : Finds (things_of t) word = c.starts-then-starts.ensures.start c.if-starts-2.true in
    let refs = subst (λ (o : Option Thing). All (Finds (things_of t)) (words_in o)) at.1 (c.requires.objects a) in
    subst (λ (m : Table). AreFound (things_of m) c.args.roots.now)
    (sym (c.set_word.ensures ∙ (ap (λ p. with_word_at t p c.word_of.result) c.slot_place-place.ensures.place ∙ ap (with_word_at t (slot_place t a 1)) c.word_of.ensures)))
    (found-updated (things_of t) (things_of now) c.args.roots.now a y c.requires (stay-written (things_of t) (things_of now) a x y at.1 refl update) update
    (All-set (Finds (things_of t)) x.refs 1 word to refs))
