use Rattle.bal_words.proofs.Seen.{roots-placed, shows-blank, shows-placed}
use Rattle.bal_words.proofs.shown.a_new_object_is_shown.Goals as goal

pub returns-clause-placed : goal.returns-clause-placed
returns-clause-placed c = shows-placed

pub returns-clause-blank : goal.returns-clause-blank
returns-clause-blank c = shows-blank

pub returns-clause-roots : goal.returns-clause-roots
returns-clause-roots c = roots-placed
