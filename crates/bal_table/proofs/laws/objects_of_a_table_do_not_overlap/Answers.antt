use Rattle.bal_table.proofs.Seen.{apart, object-sized, object-within}
use Rattle.bal_table.proofs.laws.objects_of_a_table_do_not_overlap.Goals as goal

pub returns-clause-object : goal.returns-clause-object
returns-clause-object c = object-within

pub returns-clause-apart : goal.returns-clause-apart
returns-clause-apart c = apart

pub returns-clause-size : goal.returns-clause-size
returns-clause-size c = object-sized
