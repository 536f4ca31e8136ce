use Rattle.bal_meet.proofs.Changes.{global-meets, register-meets}
use Rattle.bal_meet.proofs.meeting.a_root_is_written.Goals as goal

pub returns-clause-register : goal.returns-clause-register
returns-clause-register c = register-meets

pub returns-clause-global : goal.returns-clause-global
returns-clause-global c = global-meets
