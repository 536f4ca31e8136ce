use Rattle.std.proofs.Common.{◌∙◌, ap, arith}
use Rattle.bal_model.specs.Plain.{State, holding, with_register}
use Rattle.bal_model.proofs.GraphFacts.{graph_of-changed}
use Rattle.bal_model.proofs.plain.Plain.set_register.Goals as goal

pub returns : goal.returns
returns c =
    graph_of-changed c.self.inside c.args.thread c.index_mut-mutator.result.now c.hold.new.mutator (holding c.args.register c.args.content) (omega (arith, c.self.invariant.mutators)) c.index_mut-mutator.ensures.value c.hold.ensures.held
    ∙ ap (λ (s : State). with_register s c.args.thread c.args.register c.args.content) c.self.view_is
