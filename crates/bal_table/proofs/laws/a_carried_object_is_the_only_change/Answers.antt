use Rattle.bal_table.proofs.Carried.{IsTable-carried, carried-free, carried-region, thing-carried, used-elsewhere, used-there, words-carried, words-found}
use Rattle.bal_table.proofs.laws.a_carried_object_is_the_only_change.Goals as goal

pub returns-clause-object : goal.returns-clause-object
returns-clause-object c = words-found

pub returns-clause-free : goal.returns-clause-free
returns-clause-free c = carried-free

pub returns-clause-moved : goal.returns-clause-moved
returns-clause-moved c = thing-carried

pub returns-clause-words : goal.returns-clause-words
returns-clause-words c = words-carried

pub returns-clause-region : goal.returns-clause-region
returns-clause-region c = carried-region

pub returns-clause-used : goal.returns-clause-used
returns-clause-used c = used-there

pub returns-clause-others : goal.returns-clause-others
returns-clause-others c = λ t from q p table may. used-elsewhere t from q table may p

pub returns-clause-table : goal.returns-clause-table
returns-clause-table c = IsTable-carried
