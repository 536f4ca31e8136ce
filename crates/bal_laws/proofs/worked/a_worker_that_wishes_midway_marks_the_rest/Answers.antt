use Rattle.std.proofs.Common.{refl}
use Rattle.bal_laws.specs.Worked.{abandoned_midway}
use Rattle.bal_rules.specs.Interim.{whole}
use Rattle.bal_laws.proofs.RunTests.{replay-passes}
use Rattle.bal_laws.proofs.worked.a_worker_that_wishes_midway_marks_the_rest.Goals as goal

pub returns : goal.returns
returns c = replay-passes whole abandoned_midway.config abandoned_midway.rows abandoned_midway.journal refl refl
