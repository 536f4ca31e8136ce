use Rattle.std.proofs.Common.{◌≡◌, ◌∙◌, ap, arith}
use Rattle.std.proofs.lemmas.Result.{on_ok_weaker, on_err_weaker}
use Rattle.bal_model.specs.Plain.{State, adopting, mutator, with_mutator}
use Rattle.bal_model.specs.Graph.{mutator_of, object_of}
use Rattle.bal_model.proofs.GraphFacts.{graph_of-changed, graph_of-same}
use Rattle.bal_model.proofs.plain.Plain.keep_node.Goals as goal

pub returns-clause-graph : goal.returns-clause-graph
returns-clause-graph c =
    let t = c.args.thread in
    let r = c.args.register in
    let o = object_of c.args.node in
    let m = c.index_mut-mutator.result.now in
    on_ok_weaker c.adopt.result (λ (new : mutator_of c.adopt.new.mutator ≡ adopting t r o (mutator_of m)).
    graph_of-changed c.self.inside t m c.adopt.new.mutator (adopting t r o) (omega (arith, c.self.invariant.mutators)) c.index_mut-mutator.ensures.value
    new
    ∙ ap (λ (s : State). with_mutator s t (adopting t r o (mutator s t))) c.self.view_is) c.adopt.ensures.graph

pub returns-clause-err : goal.returns-clause-err
returns-clause-err c =
    let m = c.index_mut-mutator.result.now in
    on_err_weaker c.adopt.result (λ (same : mutator_of c.adopt.new.mutator ≡ mutator_of m).
    graph_of-same c.self.inside c.args.thread m c.adopt.new.mutator (omega (arith, c.self.invariant.mutators)) c.index_mut-mutator.ensures.value same
    ∙ c.self.view_is) c.adopt.ensures.err
