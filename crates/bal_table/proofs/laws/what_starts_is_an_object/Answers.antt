use Rattle.bal_table.proofs.Held.{object-thing}
use Rattle.bal_table.proofs.Seen.{start-address}
use Rattle.bal_table.proofs.laws.what_starts_is_an_object.Goals as goal

pub returns-clause-start : goal.returns-clause-start
returns-clause-start c = start-address

pub returns-clause-object : goal.returns-clause-object
returns-clause-object c = object-thing
