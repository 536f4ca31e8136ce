use Rattle.std.proofs.Common.{◌∙◌, ◌++◌, ◌∷◌, [], ap, sym}
use Rattle.bal_core.proofs.StartFacts.{take-at}
use Rattle.bal_core.proofs.start.ages_of.Goals as goal

pub loop-object-preserved : goal.loop-object-preserved
loop-object-preserved g c =
    c.in_ok-push.ensures.items ∙ ap (λ l. l ++ c.age.result ∷ []) c.loop-object.invariant ∙ sym (take-at _ c.loop-object.object c.age.result c.age.ensures)
