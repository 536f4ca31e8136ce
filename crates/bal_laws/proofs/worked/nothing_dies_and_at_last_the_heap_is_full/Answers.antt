use Rattle.std.proofs.Common.{refl}
use Rattle.bal_rules.specs.Interim.{compacting}
use Rattle.bal_laws.specs.WorkedGlobal.{full_when_nothing_dies}
use Rattle.bal_laws.proofs.RunTests.{replay-passes}
use Rattle.bal_laws.proofs.worked.nothing_dies_and_at_last_the_heap_is_full.Goals as goal

pub returns : goal.returns
returns c = replay-passes compacting full_when_nothing_dies.config full_when_nothing_dies.rows full_when_nothing_dies.journal refl refl
