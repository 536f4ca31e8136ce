use Rattle.bal_settle.proofs.Estimates.{estimate-is}
use Rattle.bal_settle.proofs.Kept.{slots-settled, things-settled, used-settled, words-settled}
use Rattle.bal_settle.proofs.laws.a_settled_table_keeps_just_the_marked.Goals as goal

pub returns-clause-objects : goal.returns-clause-objects
returns-clause-objects c = things-settled

pub returns-clause-used : goal.returns-clause-used
returns-clause-used c = used-settled

pub returns-clause-slots : goal.returns-clause-slots
returns-clause-slots c = slots-settled

pub returns-clause-estimate : goal.returns-clause-estimate
returns-clause-estimate c = estimate-is

pub returns-clause-words : goal.returns-clause-words
returns-clause-words c = words-settled
