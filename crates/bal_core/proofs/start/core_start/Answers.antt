use Rattle.std.proofs.Common.{◌∙◌, ap, length, None, replicate, subst, sym}
use Rattle.std.proofs.lemmas.List.{length-map}
use Rattle.bal_core.specs.Core.{IsCore}
use Rattle.bal_core.proofs.StartFacts.{few-words, start-core, start-fields}
use Rattle.bal_core.proofs.start.core_start.Goals as goal

pub sizes_of-requires-clause-few : goal.sizes_of-requires-clause-few
sizes_of-requires-clause-few g c =
    few-words c.args.geometry.now (g.F.FromGraph.graph c.args.graph.now) c.args.roots.now c.args.pool.now c.args.workers c.requires c.words.ensures.limits

pub returns : goal.returns
returns g c =
    start-fields c.args.geometry.now c.in_ok-ages_of.ensures c.in_ok-sizes_of.ensures c.in_ok-names_of.ensures
    c.in_ok-targets_of.ensures c.in_ok-numbers_of.ensures c.in_ok-numbers_of-2.ensures
    (c.in_ok-open_words.ensures
    ∙ ap (λ n. replicate n None) (c.count.ensures ∙ sym c.requires.graph.words ∙ sym (length-map (g.F.FromGraph.graph c.args.graph.now).words length)))
    c.in_ok-no_wishes.ensures c.in_ok-crew_of.ensures

pub invariant_of-result : goal.invariant_of-result
invariant_of-result g c =
    subst IsCore
    (sym (start-fields c.args.geometry.now c.in_ok-ages_of.ensures c.in_ok-sizes_of.ensures c.in_ok-names_of.ensures
    c.in_ok-targets_of.ensures c.in_ok-numbers_of.ensures c.in_ok-numbers_of-2.ensures
    (c.in_ok-open_words.ensures
    ∙ ap (λ n. replicate n None) (c.count.ensures ∙ sym c.requires.graph.words ∙ sym (length-map (g.F.FromGraph.graph c.args.graph.now).words length)))
    c.in_ok-no_wishes.ensures c.in_ok-crew_of.ensures))
    (start-core c.args.geometry.now (g.F.FromGraph.graph c.args.graph.now) c.args.roots.now c.args.pool.now c.args.workers c.requires c.words.ensures.limits)
