use Rattle.bal_table.proofs.Slid.{IsTable-slid, may-move, slid-free, thing-slid, used-slid, words-slid}
use Rattle.bal_table.proofs.laws.a_moved_object_is_the_only_change.Goals as goal

pub returns-clause-may : goal.returns-clause-may
returns-clause-may c = may-move

pub returns-clause-free : goal.returns-clause-free
returns-clause-free c = slid-free

pub returns-clause-moved : goal.returns-clause-moved
returns-clause-moved c = thing-slid

pub returns-clause-words : goal.returns-clause-words
returns-clause-words c = words-slid

pub returns-clause-used : goal.returns-clause-used
returns-clause-used c = λ t from to q table may. used-slid t from to table may q

pub returns-clause-table : goal.returns-clause-table
returns-clause-table c = IsTable-slid
