use Rattle.std.proofs.Common.{◌∙◌, ◌++◌, ◌∷◌, [], ap, sym}
use Rattle.bal_core.proofs.StartFacts.{take-at}
use Rattle.bal_core.proofs.start.slots_of.Goals as goal

pub loop-slot-preserved : goal.loop-slot-preserved
loop-slot-preserved g c =
    c.in_ok-push.ensures.items ∙ ap (λ l. l ++ c.target.result ∷ []) c.loop-slot.invariant ∙ sym (take-at _ c.loop-slot.slot c.target.result c.target.ensures)
