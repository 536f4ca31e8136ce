use Rattle.bal_words.proofs.Parts.{header-kept, piece-blank, piece-numbered, piece-referred, spine-referred}
use Rattle.bal_words.proofs.pieces.an_object_is_written_word_by_word.Goals as goal

pub returns-clause-reference : goal.returns-clause-reference
returns-clause-reference c = piece-referred

pub returns-clause-number : goal.returns-clause-number
returns-clause-number c = piece-numbered

pub returns-clause-leaf : goal.returns-clause-leaf
returns-clause-leaf c = spine-referred

pub returns-clause-header : goal.returns-clause-header
returns-clause-header c = header-kept

pub returns-clause-blank : goal.returns-clause-blank
returns-clause-blank c = piece-blank
