use Rattle.std.proofs.Common.{◌∙◌, arith, sym}
use Rattle.bal_region.proofs.Seen.{first-is}
use Rattle.bal_region.proofs.tests.slide_first.Goals as goal

pub slide-requires : goal.slide-requires
slide-requires c =
    let start = c.in_ok-start.start in
    let first = (first-is c.args.region.now 0 start c.used.ensures.limits).0 (sym c.first_from.ensures.least ∙ c.in_ok-start.was) in
    record { start = first.0; down = omega arith; clear = λ s among less. absurd (omega (arith, less, first.2 s among (omega arith))) }
