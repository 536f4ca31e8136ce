use Rattle.bal_meet.proofs.Changes.{empty-meets}
use Rattle.bal_meet.proofs.meeting.an_empty_heap_meets_the_opening_board.Goals as goal

pub returns : goal.returns
returns c = empty-meets
