use Rattle.bal_meet.proofs.Freeing.{freed-more}
use Rattle.bal_meet.proofs.meeting.regions_change.Goals as goal

pub returns-clause-one_by_one : goal.returns-clause-one_by_one
returns-clause-one_by_one c = freed-more
