use Rattle.std.proofs.Common.{ap, sym, ◌∙◌, arith}
use Rattle.std.specs.Prelude.{option_map}
use Rattle.bal_model.specs.Plain.{object_at, Mutator}
use Rattle.bal_model.specs.Graph.{object_of}
use Rattle.bal_model.proofs.GraphFacts.{mutator-at, object_at-map}
use Rattle.bal_model.proofs.plain.Plain.node.Goals as goal

pub returns : goal.returns
returns c =
    let x = c.args.name in
    let at = mutator-at c.self.inside x.thread c.index-mutator.result.now (omega arith) c.index-mutator.ensures in
    let made = object_at-map c.deref.result.now x.ordinal (omega arith) in
    ap (option_map object_of) c.node_at.ensures ∙ sym made ∙ rw (c.deref.ensures.value, ← c.self.view_is) (sym (ap (λ (m : Mutator). object_at m.made x.ordinal) at))
