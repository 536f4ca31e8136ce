use Rattle.std.proofs.Common.{refl}
use Rattle.bal_laws.specs.WorkedMore.{sixteen_alive}
use Rattle.bal_rules.specs.Interim.{whole}
use Rattle.bal_laws.proofs.RunTests.{replay-passes}
use Rattle.bal_laws.proofs.worked.one_of_two_workers_may_copy_all.Goals as goal

pub returns : goal.returns
returns c = replay-passes whole sixteen_alive.config sixteen_alive.rows sixteen_alive.journal refl refl
