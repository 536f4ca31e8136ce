use Rattle.std.proofs.Common.{◌≡◌, take}
use Rattle.bal_core.specs.Steps.{after_all}
use Rattle.bal_core.proofs.step.run_core.Given as goal

-- the events so far were applied
abbrev pub invariant-loop-event : goal.invariant-loop-event
invariant-loop-event l = l.state ≡ after_all (take l.event-index l.events) l.fn.state
