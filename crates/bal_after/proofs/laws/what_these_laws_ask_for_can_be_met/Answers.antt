use Rattle.bal_after.proofs.Worked.{ascending, in-use, marked, no-leaves}
use Rattle.bal_after.proofs.laws.what_these_laws_ask_for_can_be_met.Goals as goal

pub returns-clause-ascending : goal.returns-clause-ascending
returns-clause-ascending c = ascending

pub returns-clause-no_leaves : goal.returns-clause-no_leaves
returns-clause-no_leaves c = no-leaves

pub returns-clause-in_use : goal.returns-clause-in_use
returns-clause-in_use c = in-use

pub returns-clause-marked : goal.returns-clause-marked
returns-clause-marked c = marked
