use Rattle.bal_table.specs.Table.{things_of}
use Rattle.bal_mark.specs.Found.{AreFound}
use Rattle.bal_mark.proofs.tests.put_all.Given as goal

abbrev pub invariant-loop : goal.invariant-loop
invariant-loop l = AreFound (things_of l.table) l.roots
