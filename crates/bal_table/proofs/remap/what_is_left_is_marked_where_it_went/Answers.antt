use Rattle.bal_table.proofs.Remapping.{IsMarked-remapped, in-remapped, remapped-queue}
use Rattle.bal_table.proofs.remap.what_is_left_is_marked_where_it_went.Goals as goal

pub returns-clause-marked : goal.returns-clause-marked
returns-clause-marked c = in-remapped

pub returns-clause-queue : goal.returns-clause-queue
returns-clause-queue c = remapped-queue

pub returns-clause-limits : goal.returns-clause-limits
returns-clause-limits c = IsMarked-remapped
