use Rattle.bal_table.proofs.Marking.{queue-first, queue-none}
use Rattle.bal_table.proofs.marks.the_queue_is_what_was_not_taken.Goals as goal

pub returns-clause-first : goal.returns-clause-first
returns-clause-first c = queue-first

pub returns-clause-none : goal.returns-clause-none
returns-clause-none c = queue-none
