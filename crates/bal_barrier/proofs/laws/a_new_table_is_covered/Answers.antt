use Rattle.bal_barrier.proofs.Covering.{covered-empty}
use Rattle.bal_barrier.proofs.Targets.{lead-empty}
use Rattle.bal_barrier.proofs.laws.a_new_table_is_covered.Goals as goal

pub returns-clause-covered : goal.returns-clause-covered
returns-clause-covered c = covered-empty

pub returns-clause-found : goal.returns-clause-found
returns-clause-found c = lead-empty
