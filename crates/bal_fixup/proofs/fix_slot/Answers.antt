use Rattle.std.proofs.Common.{◌≡◌, get_or, ap, subst, sym, ◌∙◌}
use Rattle.bal_fixup.specs.Mended.{HasSameStarts, IsReference}
use Rattle.bal_fixup.specs.Mending.{word_mended}
use Rattle.bal_fixup.proofs.Slots.{slot-kept, slot-set, slot-word}
use Rattle.bal_fixup.proofs.Stay.{same-written}
use Rattle.bal_fixup.proofs.Words.{no-answer, word-answer}
use Rattle.bal_fixup.proofs.fix_slot.Goals as goal
use Rattle.bal_fixup.proofs.fix_slot.Goals.{After-set_word, After-word}
use Rattle.bal_table.specs.Changes.{MayBeWritten, with_word_at}
use Rattle.bal_table.specs.Moves.{moved_to}
use Rattle.bal_table.specs.Table.{Table, refs_in, slot_place, things_of}
use Rattle.bal_table.proofs.Lemmas.{reference-there}
use Rattle.bal_words.specs.Things.{Updated, with_refs}
use Rattle.std.specs.Option.{option_map}

-- the object's reference was read
read : (c : After-word) → c.word.result ≡ get_or (refs_in (things_of c.args.table.now c.args.address)) c.args.slot 0
read c =
    c.word.ensures
    ∙ slot-word c.args.table.now c.args.address c.args.slot (moved_to c.args.moves.now) c.geometry.ensures.limits c.requires.slot c.slot_place-place.result c.slot_place-place.ensures.place

-- and is written in its place
written : (c : After-set_word) → c.set_word.new.self ≡ with_word_at c.args.table.now (slot_place c.args.table.now c.args.address c.args.slot) c.in-Some.word
written c = c.set_word.ensures ∙ ap (λ p. with_word_at c.args.table.now p c.in-Some.word) c.slot_place-place.ensures.place

pub mended-requires : goal.mended-requires
mended-requires c = subst IsReference (sym (read (goal.at.mended-requires c).After-word)) c.requires.reference

pub set_word-requires-clause-behind : goal.set_word-requires-clause-behind
set_word-requires-clause-behind c =
    subst (MayBeWritten c.args.table.now) (sym c.slot_place-place.ensures.place)
    (reference-there c.args.table.now c.args.address c.args.slot c.geometry.ensures.limits c.requires.slot).1

pub returns-in-Some-clause-mended : goal.returns-in-Some-clause-mended
returns-in-Some-clause-mended c =
    let t = c.args.table.now in
    let a = c.args.address in
    let to = moved_to c.args.moves.now in
    let refs = refs_in (things_of t a) in
    let at = goal.at.returns-in-Some-clause-mended c in
    subst (λ (u : Table). Updated (things_of t) (things_of u) a (option_map (with_refs (word_mended to c.args.slot)) (things_of t a))) (sym (written at.After-set_word))
    (slot-set t a c.args.slot to c.geometry.ensures.limits c.requires.slot c.in-Some.word
    (word-answer to c.word.result c.in-Some.word (get_or refs c.args.slot 0) c.mended.result c.mended.ensures (read at.After-word) c.in-Some.is))

pub returns-in-Some-clause-same : goal.returns-in-Some-clause-same
returns-in-Some-clause-same c =
    subst (HasSameStarts c.args.table.now) (sym (written (goal.at.returns-in-Some-clause-same c).After-set_word))
    (same-written c.args.table.now c.args.address c.args.slot c.in-Some.word c.geometry.ensures.limits c.requires.slot)

pub returns-in_default-clause-mended : goal.returns-in_default-clause-mended
returns-in_default-clause-mended c =
    let t = c.args.table.now in
    let to = moved_to c.args.moves.now in
    slot-kept (things_of t) c.args.address c.args.slot to
    (no-answer to c.word.result (get_or (refs_in (things_of t c.args.address)) c.args.slot 0) c.mended.result c.mended.ensures
    (read (goal.at.returns-in_default-clause-mended c).After-word) c.in_default.is)
