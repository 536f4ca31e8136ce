use Rattle.bal_layout.proofs.Headers.{header-of_words, words-of_header}
use Rattle.bal_layout.proofs.header.a_header_has_one_spelling.Goals as goal

pub returns-clause-of_words : goal.returns-clause-of_words
returns-clause-of_words c = header-of_words

pub returns-clause-only : goal.returns-clause-only
returns-clause-only c = words-of_header
