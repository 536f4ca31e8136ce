use Rattle.bal_words.proofs.Seen.{roots-null, roots-set, shows-empty}
use Rattle.bal_words.proofs.shown.roots_are_written.Goals as goal

pub returns-clause-written : goal.returns-clause-written
returns-clause-written c = roots-set

pub returns-clause-null : goal.returns-clause-null
returns-clause-null c = roots-null

pub returns-clause-empty : goal.returns-clause-empty
returns-clause-empty c = shows-empty
