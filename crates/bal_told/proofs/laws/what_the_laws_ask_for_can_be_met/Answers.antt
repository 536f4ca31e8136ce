use Rattle.bal_told.proofs.Worked.{begins, walks, whole}
use Rattle.bal_told.proofs.laws.what_the_laws_ask_for_can_be_met.Goals as goal

pub returns-clause-whole : goal.returns-clause-whole
returns-clause-whole c = whole

pub returns-clause-begins : goal.returns-clause-begins
returns-clause-begins c = begins

pub returns-clause-walks : goal.returns-clause-walks
returns-clause-walks c = walks
