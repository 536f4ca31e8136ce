use Rattle.std.proofs.Common.{◌≡◌, ◌∙◌, ap, arith, replicate, length}
use Rattle.bal_model.specs.Plain.{idle}
use Rattle.bal_model.proofs.GraphFacts.{IsGraph-idle}
use Rattle.bal_model.proofs.plain.make.start_plain.Goals as goal

pub invariant_of-result : goal.invariant_of-result
invariant_of-result c =
    let all : c.loop.counter ≡ 32 = omega arith in
    IsGraph-idle _ (c.loop.invariant ∙ ap (λ n. replicate n idle) all) (ap length c.in_ok-filled.ensures)
