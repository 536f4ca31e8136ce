use Rattle.bal_table.proofs.Changed.{thing-numbered, thing-referred}
use Rattle.bal_table.proofs.Tables.{IsTable-written}
use Rattle.bal_table.proofs.Written.{object-written_at, slots-stay}
use Rattle.bal_table.proofs.laws.a_written_slot_is_the_only_change.Goals as goal

pub returns-clause-reference : goal.returns-clause-reference
returns-clause-reference c = thing-referred

pub returns-clause-number : goal.returns-clause-number
returns-clause-number c = thing-numbered

pub returns-clause-table : goal.returns-clause-table
returns-clause-table c = IsTable-written

pub returns-clause-words : goal.returns-clause-words
returns-clause-words c = object-written_at

pub returns-clause-slots : goal.returns-clause-slots
returns-clause-slots c = slots-stay
