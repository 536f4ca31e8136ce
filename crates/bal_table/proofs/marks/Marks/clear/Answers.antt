use Rattle.std.proofs.Common.{arith}
use Rattle.bal_table.proofs.KeptMarking.{AreKept-none}
use Rattle.bal_table.proofs.marks.Marks.clear.Goals as goal

pub invariant_of-self : goal.invariant_of-self
invariant_of-self c =
    let kept = c.self.invariant in
    AreKept-none c.self.inside.words c.clear.new.self c.clear-2.new.self kept.marked.few c.clear.ensures.members c.clear-2.ensures.list
    (omega (arith, kept.bits, c.clear.ensures.room)) (omega (arith, kept.room, c.clear-2.ensures.spare))
