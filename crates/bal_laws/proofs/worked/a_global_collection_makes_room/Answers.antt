use Rattle.std.proofs.Common.{refl}
use Rattle.bal_rules.specs.Interim.{compacting}
use Rattle.bal_laws.specs.WorkedGlobal.{seven_of_eight_die}
use Rattle.bal_laws.proofs.RunTests.{replay-passes}
use Rattle.bal_laws.proofs.worked.a_global_collection_makes_room.Goals as goal

pub returns : goal.returns
returns c = replay-passes compacting seven_of_eight_die.config seven_of_eight_die.rows seven_of_eight_die.journal refl refl
