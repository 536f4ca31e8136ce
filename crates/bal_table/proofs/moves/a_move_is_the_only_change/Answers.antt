use Rattle.bal_table.proofs.Forwarded.{moved-none, moved-others, moved-own}
use Rattle.bal_table.proofs.moves.a_move_is_the_only_change.Goals as goal

pub returns-clause-own : goal.returns-clause-own
returns-clause-own c = moved-own

pub returns-clause-others : goal.returns-clause-others
returns-clause-others c = moved-others

pub returns-clause-none : goal.returns-clause-none
returns-clause-none c = moved-none
