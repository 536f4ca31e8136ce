use Rattle.std.proofs.Common.{◌≤◌, ◌∙◌, arith, sym}
use Rattle.bal_core.proofs.Always.{core-changed}
use Rattle.bal_core.proofs.Bounds.{few-draws}
use Rattle.bal_core.proofs.step.apply.Goals as goal

pub change-requires-clause-counter : goal.change-requires-clause-counter
change-requires-clause-counter c =
    let few : c.state.inside.race.counter ≤ 2079 = few-draws c.state.inside.race c.state.invariant in
    omega (arith, few)

pub invariant_of-state : goal.invariant_of-state
invariant_of-state c =
    core-changed c.state.inside.race c.change.new.self c.args.event.now c.change.result c.state.invariant
    (sym c.fault.ensures ∙ c.in_default.is) c.change.ensures.ok c.change.ensures.err
