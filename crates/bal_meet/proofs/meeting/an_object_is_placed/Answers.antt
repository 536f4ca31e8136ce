use Rattle.bal_meet.proofs.Changes.{next-met, placed-meets}
use Rattle.bal_meet.proofs.meeting.an_object_is_placed.Goals as goal

pub returns-clause-name : goal.returns-clause-name
returns-clause-name c = next-met

pub returns-clause-placed : goal.returns-clause-placed
returns-clause-placed c = placed-meets
