use Rattle.bal_meet.proofs.Changes.{number-meets, reference-meets}
use Rattle.bal_meet.proofs.meeting.a_slot_is_written.Goals as goal

pub returns-clause-reference : goal.returns-clause-reference
returns-clause-reference c = reference-meets

pub returns-clause-number : goal.returns-clause-number
returns-clause-number c = number-meets
