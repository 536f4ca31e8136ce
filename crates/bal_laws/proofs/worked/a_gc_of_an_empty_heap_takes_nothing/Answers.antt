use Rattle.std.proofs.Common.{refl}
use Rattle.bal_rules.specs.Interim.{compacting}
use Rattle.bal_laws.specs.WorkedGlobal.{gc_of_an_empty_heap}
use Rattle.bal_laws.proofs.RunTests.{replay-passes}
use Rattle.bal_laws.proofs.worked.a_gc_of_an_empty_heap_takes_nothing.Goals as goal

pub returns : goal.returns
returns c = replay-passes compacting gc_of_an_empty_heap.config gc_of_an_empty_heap.rows gc_of_an_empty_heap.journal refl refl
