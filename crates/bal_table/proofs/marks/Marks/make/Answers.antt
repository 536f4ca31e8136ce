use Rattle.std.proofs.Common.{◌∙◌, arith}
use Rattle.bal_table.proofs.KeptMarking.{AreKept-none}
use Rattle.bal_table.proofs.marks.Marks.make.Goals as goal

pub invariant_of-result : goal.invariant_of-result
invariant_of-result c =
    let few = c.regions.ensures.limits.words_in_all in
    AreKept-none _ c.in_ok-make.field-0 c.reserve.new.self (rw (c.regions.ensures.number, c.words.ensures.number) (omega (arith, few))) c.in_ok-make.ensures.0
    (c.reserve.ensures.list ∙ c.in_ok-order.ensures) c.in_ok-make.ensures.1 c.in_ok-reserve.ensures.ok
