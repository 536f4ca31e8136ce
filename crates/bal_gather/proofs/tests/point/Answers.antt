use Rattle.std.proofs.Common.{arith, subst, sym}
use Rattle.bal_table.specs.Changes.{MayBeWritten}
use Rattle.bal_table.proofs.Lemmas.{reference-there}
use Rattle.bal_gather.proofs.tests.point.Goals as goal

pub set_word-requires-clause-behind : goal.set_word-requires-clause-behind
set_word-requires-clause-behind c =
    subst (MayBeWritten c.args.table.now) (sym c.slot_place-place.ensures.place)
    (reference-there c.args.table.now c.args.from c.args.slot c.geometry-geometry.ensures.limits (omega (arith, c.slots.ensures, c.if-slot-slots.true))).1
