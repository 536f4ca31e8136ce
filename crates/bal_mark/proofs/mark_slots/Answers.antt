use Rattle.std.proofs.Common.{◌≡◌, ◌<◌, ◌∙◌, arith, get_or, length}
use Rattle.bal_table.specs.Table.{refs_in, things_of}
use Rattle.bal_mark.proofs.Steps.{next-led, next-limit, next-may, slot-word}
use Rattle.bal_mark.proofs.mark_slots.Goals as goal
use Rattle.bal_mark.proofs.mark_slots.Goals.{After-word}

-- the slot is one of the object's
within : (c : After-word) → c.loop-slot.slot < length (refs_in (things_of c.args.table.now c.args.address))
within c = omega (arith, c.loop-slot-test.true, c.slots-slot-end.ensures)

-- and its word was read
read : (c : After-word) → c.word.result ≡ get_or (refs_in (things_of c.args.table.now c.args.address)) c.loop-slot.slot 0
read c = c.word.ensures ∙ slot-word c.args.table.now c.args.address c.loop-slot.slot c.slot_place.result c.requires.marks.table (within c) c.slot_place.ensures.place

pub mark_word-requires-clause-word : goal.mark_word-requires-clause-word
mark_word-requires-clause-word c =
    let at = (goal.at.mark_word-requires-clause-word c).After-word in
    next-limit c.args.table.now c.args.marks.now c.loop-slot.marks (refs_in (things_of c.args.table.now c.args.address)) c.loop-slot.slot c.word.result
    c.loop-slot.invariant (within at) (read at) c.requires.marks c.requires.found

pub mark_word-requires-clause-room : goal.mark_word-requires-clause-room
mark_word-requires-clause-room c =
    let at = (goal.at.mark_word-requires-clause-room c).After-word in
    next-may c.args.table.now c.args.marks.now c.loop-slot.marks (refs_in (things_of c.args.table.now c.args.address)) c.loop-slot.slot c.word.result
    c.loop-slot.invariant (within at) (read at) c.requires.marks c.requires.found

pub loop-slot-preserved : goal.loop-slot-preserved
loop-slot-preserved c =
    let at = (goal.at.loop-slot-preserved c).After-word in
    next-led c.args.table.now c.args.marks.now c.loop-slot.marks (refs_in (things_of c.args.table.now c.args.address)) c.loop-slot.slot c.word.result
    c.loop-slot.invariant (within at) (read at) c.mark_word.new.marks c.mark_word.ensures
