use Rattle.std.proofs.Common.{◌∙◌, ◌++◌, ◌∷◌, [], ap, length, sym}
use Rattle.bal_core.proofs.StartFacts.{map-take-at}
use Rattle.bal_core.proofs.start.sizes_of.Goals as goal

pub loop-object-preserved : goal.loop-object-preserved
loop-object-preserved g c =
    let words = (g.F.FromGraph.graph c.args.graph.now).words in
    c.in_ok-push.ensures.items ∙ ap (λ l. l ++ length c.words.result.now ∷ []) c.loop-object.invariant
    ∙ sym (map-take-at length words c.loop-object.object c.words.result.now c.words.ensures)
