use Rattle.std.proofs.Common.{◌∙◌, ap, arith, List}
use Rattle.std.proofs.lemmas.Bool.{OnTrue_from, OnTrue_at, OnFalse_from, OnFalse_at}
use Rattle.bal_model.specs.Plain.{State, Object, altering, referring, with_reference}
use Rattle.bal_model.proofs.GraphFacts.{graph_of-changed, graph_of-same}
use Rattle.bal_model.proofs.plain.Plain.set_reference.Goals as goal

pub returns-clause-graph : goal.returns-clause-graph
returns-clause-graph c = OnTrue_from _ _ (λ t.
    let m = c.index_mut-mutator.result.now in
    graph_of-changed c.self.inside c.args.name.thread m (record { registers = m.registers; made = c.write_reference.new.made }) (altering c.args.name.ordinal (referring c.args.slot c.args.content)) (omega arith) c.index_mut-mutator.ensures.value
    (ap (λ (os : List Object). record { registers = m.registers.list; made = os }) (OnTrue_at t c.write_reference.ensures.graph))
    ∙ ap (λ (s : State). with_reference s c.args.name c.args.slot c.args.content) c.self.view_is)

pub returns-clause-same : goal.returns-clause-same
returns-clause-same c = OnFalse_from _ _ (λ t.
    let m = c.index_mut-mutator.result.now in
    graph_of-same c.self.inside c.args.name.thread m (record { registers = m.registers; made = c.write_reference.new.made }) (omega arith) c.index_mut-mutator.ensures.value
    (ap (λ (os : List Object). record { registers = m.registers.list; made = os }) (OnFalse_at t c.write_reference.ensures.same))
    ∙ c.self.view_is)
