use Rattle.std.proofs.Common.{refl}
use Rattle.bal_rules.specs.Interim.{evacuating}
use Rattle.bal_laws.specs.Worked.{marked_in_place}
use Rattle.bal_laws.proofs.RunTests.{replay-passes}
use Rattle.bal_laws.proofs.worked.an_evacuation_that_is_abandoned_at_once_moves_nothing.Goals as goal

pub returns : goal.returns
returns c = replay-passes evacuating marked_in_place.config marked_in_place.rows marked_in_place.journal refl refl
