use Rattle.bal_table.proofs.SlotWords.{number-lies, reference-lies}
use Rattle.bal_table.proofs.laws.a_slot_lies_in_its_object.Goals as goal

pub returns-clause-reference : goal.returns-clause-reference
returns-clause-reference c = reference-lies

pub returns-clause-number : goal.returns-clause-number
returns-clause-number c = number-lies
