use Rattle.std.proofs.Common.{◌∙◌, ◌++◌, ◌∷◌, [], ap, arith, map, sym, take}
use Rattle.std.proofs.lemmas.List.{map-append, take_more}
use Rattle.bal_core.proofs.start.targets_of.Goals as goal

pub loop-object-preserved : goal.loop-object-preserved
loop-object-preserved g c =
    let targets = (g.F.FromGraph.graph c.args.graph.now).targets in
    let slots = c.in_ok-slots_of.field-0 in
    ap (map (λ v. v.items)) c.in_ok-push.ensures.items
    ∙ map-append (λ v. v.items) c.loop-object.targets.items (slots ∷ [])
    ∙ ap (λ l. l ++ slots.items ∷ []) c.loop-object.invariant
    ∙ ap (λ l. take c.loop-object.object targets ++ l ∷ []) c.in_ok-slots_of.ensures
    ∙ sym (take_more targets c.loop-object.object [] (omega (arith, c.requires, c.count-count.ensures, c.loop-object-test.true)))
