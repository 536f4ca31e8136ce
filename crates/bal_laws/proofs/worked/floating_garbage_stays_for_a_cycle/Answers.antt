use Rattle.std.proofs.Common.{refl}
use Rattle.bal_laws.specs.WorkedMore.{floating_garbage}
use Rattle.bal_rules.specs.Interim.{whole}
use Rattle.bal_laws.proofs.RunTests.{replay-passes}
use Rattle.bal_laws.proofs.worked.floating_garbage_stays_for_a_cycle.Goals as goal

pub returns : goal.returns
returns c = replay-passes whole floating_garbage.config floating_garbage.rows floating_garbage.journal refl refl
