use Rattle.bal_gather.proofs.Listed.{listed-are, listed-ascend, number-place}
use Rattle.bal_gather.proofs.laws.objects_are_numbered_by_address.Goals as goal

pub returns-clause-listed : goal.returns-clause-listed
returns-clause-listed c = listed-are

pub returns-clause-ascend : goal.returns-clause-ascend
returns-clause-ascend c = listed-ascend

pub returns-clause-number : goal.returns-clause-number
returns-clause-number c = number-place
