use Rattle.bal_base.proofs.Members.{member-with, member-without, with-last}
use Rattle.bal_base.proofs.bits.a_set_is_told_by_its_members.Goals as goal

pub returns-clause-inserted : goal.returns-clause-inserted
returns-clause-inserted c = member-with

pub returns-clause-removed : goal.returns-clause-removed
returns-clause-removed c = member-without

pub returns-clause-last : goal.returns-clause-last
returns-clause-last c = with-last
