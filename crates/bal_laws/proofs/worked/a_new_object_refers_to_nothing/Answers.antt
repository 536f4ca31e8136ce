use Rattle.std.proofs.Common.{refl}
use Rattle.bal_laws.specs.Worked.{first_load}
use Rattle.bal_rules.specs.Interim.{whole}
use Rattle.bal_laws.proofs.RunTests.{replay-passes}
use Rattle.bal_laws.proofs.worked.a_new_object_refers_to_nothing.Goals as goal

pub returns : goal.returns
returns c = replay-passes whole first_load.config first_load.rows first_load.journal refl refl
