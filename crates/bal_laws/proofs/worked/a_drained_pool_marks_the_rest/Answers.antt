use Rattle.std.proofs.Common.{refl}
use Rattle.bal_laws.specs.Worked.{a_drained_pool}
use Rattle.bal_rules.specs.Interim.{whole}
use Rattle.bal_laws.proofs.RunTests.{replay-passes}
use Rattle.bal_laws.proofs.worked.a_drained_pool_marks_the_rest.Goals as goal

pub returns : goal.returns
returns c = replay-passes whole a_drained_pool.config a_drained_pool.rows a_drained_pool.journal refl refl
