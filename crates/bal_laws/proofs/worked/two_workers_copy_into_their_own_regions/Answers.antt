use Rattle.std.proofs.Common.{refl}
use Rattle.bal_laws.specs.Worked.{two_workers}
use Rattle.bal_rules.specs.Interim.{whole}
use Rattle.bal_laws.proofs.RunTests.{replay-passes}
use Rattle.bal_laws.proofs.worked.two_workers_copy_into_their_own_regions.Goals as goal

pub returns : goal.returns
returns c = replay-passes whole two_workers.config two_workers.rows two_workers.journal refl refl
