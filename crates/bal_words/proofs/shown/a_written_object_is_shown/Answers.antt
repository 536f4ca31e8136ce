use Rattle.bal_words.proofs.Seen.{roots-written, shows-numbered, shows-referred, shows-written}
use Rattle.bal_words.proofs.shown.a_written_object_is_shown.Goals as goal

pub returns-clause-written : goal.returns-clause-written
returns-clause-written c = shows-written

pub returns-clause-reference : goal.returns-clause-reference
returns-clause-reference c = shows-referred

pub returns-clause-number : goal.returns-clause-number
returns-clause-number c = shows-numbered

pub returns-clause-roots : goal.returns-clause-roots
returns-clause-roots c = roots-written
