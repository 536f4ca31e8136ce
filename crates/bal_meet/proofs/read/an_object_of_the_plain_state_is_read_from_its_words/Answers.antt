use Rattle.bal_meet.proofs.Reading.{number-decoded, numbers-decoded, reference-decoded, references-decoded}
use Rattle.bal_meet.proofs.read.an_object_of_the_plain_state_is_read_from_its_words.Goals as goal

pub returns-clause-references : goal.returns-clause-references
returns-clause-references c = references-decoded

pub returns-clause-reference : goal.returns-clause-reference
returns-clause-reference c = reference-decoded

pub returns-clause-numbers : goal.returns-clause-numbers
returns-clause-numbers c = numbers-decoded

pub returns-clause-number : goal.returns-clause-number
returns-clause-number c = number-decoded
