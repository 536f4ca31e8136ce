use Rattle.bal_table.specs.Table.{things_of}
use Rattle.bal_mark.specs.Found.{AreFound}
use Rattle.bal_mark.proofs.tests.hold_all.Given as goal

abbrev pub invariant-loop-index : goal.invariant-loop-index
invariant-loop-index l = AreFound (things_of l.table) l.roots
