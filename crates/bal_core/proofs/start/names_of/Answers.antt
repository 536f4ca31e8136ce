use Rattle.std.proofs.Common.{◌∙◌, ◌++◌, ◌∷◌, [], ap, map, sym, take}
use Rattle.bal_core.specs.Start.{name_of}
use Rattle.bal_core.proofs.StartFacts.{map-take-at}
use Rattle.bal_core.proofs.start.names_of.Goals as goal

pub loop-object-preserved : goal.loop-object-preserved
loop-object-preserved g c =
    let words = (g.F.FromGraph.graph c.args.graph.now).words in
    c.in_ok-push.ensures.items ∙ ap (λ l. l ++ c.name_of.result ∷ []) c.loop-object.invariant
    ∙ ap (λ n. map name_of (take c.loop-object.object words) ++ n ∷ []) c.name_of.ensures
    ∙ sym (map-take-at name_of words c.loop-object.object c.words.result.now c.words.ensures)
