use Rattle.std.proofs.Common.{arith, subst, sym}
use Rattle.bal_table.specs.Changes.{MayBeWritten}
use Rattle.bal_table.proofs.SlotWords.{reference-there}
use Rattle.bal_table.proofs.tests.set_slot.Goals as goal

pub set_word-requires-clause-behind : goal.set_word-requires-clause-behind
set_word-requires-clause-behind c =
    subst (MayBeWritten c.args.table.now) (sym c.slot_place-place.ensures.place)
    (reference-there c.args.table.now c.args.address c.args.slot c.starts.ensures.table (omega (arith, c.slots.ensures, c.if-slot-slots.true))).1
