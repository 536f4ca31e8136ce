use Rattle.std.proofs.Common.{◌∙◌, ap, subst, sym, take}
use Rattle.bal_core.specs.Core.{IsCore}
use Rattle.bal_core.specs.Steps.{passing}
use Rattle.bal_core.proofs.Always.{core-all}
use Rattle.bal_core.proofs.Evacuated.{evacuated}
use Rattle.bal_core.proofs.Events.{after-none, after-one-more}
use Rattle.bal_core.proofs.Walks.{rest-exact}
use Rattle.bal_core.proofs.step.run_core.Goals as goal

pub loop-event-init : goal.loop-event-init
loop-event-init c = sym (after-none c.args.state.now)

pub loop-event-preserved : goal.loop-event-preserved
loop-event-preserved c =
    c.in_ok-apply_or_pass.ensures.ok
    ∙ ap (passing _) c.loop-event.invariant
    ∙ sym (after-one-more c.args.events.now c.loop-event.event-index _ c.args.state.now c.loop-event-test.true)

pub returns-in_err-apply_or_pass-clause-always : goal.returns-in_err-apply_or_pass-clause-always
returns-in_err-apply_or_pass-clause-always c n = core-all (take n c.args.events.now) c.args.state.now c.holds.ensures

pub returns-clause-always : goal.returns-clause-always
returns-clause-always c n = core-all (take n c.args.events.now) c.args.state.now c.holds.ensures

pub returns-in_err-apply_or_pass-clause-rest : goal.returns-in_err-apply_or_pass-clause-rest
returns-in_err-apply_or_pass-clause-rest c =
    rest-exact c.apply_or_pass.new.state
    (subst IsCore (sym (c.in_err-apply_or_pass.ensures.err ∙ c.loop-event.invariant))
    (core-all (take c.loop-event.event-index c.args.events.now) c.args.state.now c.holds.ensures))

pub returns-clause-rest : goal.returns-clause-rest
returns-clause-rest c =
    rest-exact c.loop-event.state
    (subst IsCore (sym c.loop-event.invariant) (core-all (take c.loop-event.event-index c.args.events.now) c.args.state.now c.holds.ensures))

pub returns-in_err-apply_or_pass-clause-finished : goal.returns-in_err-apply_or_pass-clause-finished
returns-in_err-apply_or_pass-clause-finished c =
    evacuated c.apply_or_pass.new.state
    (subst IsCore (sym (c.in_err-apply_or_pass.ensures.err ∙ c.loop-event.invariant))
    (core-all (take c.loop-event.event-index c.args.events.now) c.args.state.now c.holds.ensures))

pub returns-clause-finished : goal.returns-clause-finished
returns-clause-finished c =
    evacuated c.loop-event.state
    (subst IsCore (sym c.loop-event.invariant) (core-all (take c.loop-event.event-index c.args.events.now) c.args.state.now c.holds.ensures))
