use Rattle.bal_core.proofs.Always.{core-all, core-applies}
use Rattle.bal_core.proofs.laws.the_invariant_holds_in_every_order.Goals as goal

pub returns-clause-step : goal.returns-clause-step
returns-clause-step c s e core none = core-applies s e core none

pub returns-clause-steps : goal.returns-clause-steps
returns-clause-steps c s events core = core-all events s core
