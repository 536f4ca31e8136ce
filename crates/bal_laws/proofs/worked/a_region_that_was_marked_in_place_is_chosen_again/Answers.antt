use Rattle.std.proofs.Common.{refl}
use Rattle.bal_rules.specs.Interim.{evacuating}
use Rattle.bal_laws.specs.WorkedPartial.{marked_in_place_twice}
use Rattle.bal_laws.proofs.RunTests.{replay-passes}
use Rattle.bal_laws.proofs.worked.a_region_that_was_marked_in_place_is_chosen_again.Goals as goal

pub returns : goal.returns
returns c = replay-passes evacuating marked_in_place_twice.config marked_in_place_twice.rows marked_in_place_twice.journal refl refl
