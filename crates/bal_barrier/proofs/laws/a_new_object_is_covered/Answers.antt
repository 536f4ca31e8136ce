use Rattle.bal_barrier.proofs.Covering.{covered-new}
use Rattle.bal_barrier.proofs.Targets.{lead-new}
use Rattle.bal_barrier.proofs.laws.a_new_object_is_covered.Goals as goal

pub returns-clause-covered : goal.returns-clause-covered
returns-clause-covered c = covered-new

pub returns-clause-found : goal.returns-clause-found
returns-clause-found c = lead-new
