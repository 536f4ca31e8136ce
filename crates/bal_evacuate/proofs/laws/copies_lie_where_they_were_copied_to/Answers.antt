use Rattle.bal_evacuate.proofs.Laid.{copy-only, copy-there}
use Rattle.bal_evacuate.proofs.laws.copies_lie_where_they_were_copied_to.Goals as goal

pub returns-clause-there : goal.returns-clause-there
returns-clause-there g p c i k a is at = copy-there p c is i k a at

pub returns-clause-only : goal.returns-clause-only
returns-clause-only g p c j s d is at starts = copy-only p c is j s d at starts
