use Rattle.bal_meet.proofs.Moving.{are-placed, moved-meets}
use Rattle.bal_meet.proofs.meeting.objects_are_moved.Goals as goal

pub returns-clause-moved : goal.returns-clause-moved
returns-clause-moved c = moved-meets

pub returns-clause-placed : goal.returns-clause-placed
returns-clause-placed c = are-placed
