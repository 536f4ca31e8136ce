use Rattle.bal_meet.proofs.Noting.{note-legal}
use Rattle.bal_meet.proofs.meeting.a_card_is_noted.Goals as goal

pub returns-clause-legal : goal.returns-clause-legal
returns-clause-legal c = note-legal
