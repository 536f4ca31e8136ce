use Rattle.bal_core.proofs.Gaps.{no-gaps}
use Rattle.bal_core.proofs.laws.copies_leave_no_gaps.Goals as goal

pub returns : goal.returns
returns c s n region word core below = no-gaps s n region word core below
