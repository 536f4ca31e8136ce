use Rattle.bal_words.proofs.Seen.{kind-read, numbers-read, reference-read, slots-read}
use Rattle.bal_words.proofs.shown.an_object_is_read_from_its_words.Goals as goal

pub returns-clause-kind : goal.returns-clause-kind
returns-clause-kind c = kind-read

pub returns-clause-slots : goal.returns-clause-slots
returns-clause-slots c = slots-read

pub returns-clause-reference : goal.returns-clause-reference
returns-clause-reference c = reference-read

pub returns-clause-numbers : goal.returns-clause-numbers
returns-clause-numbers c = numbers-read
