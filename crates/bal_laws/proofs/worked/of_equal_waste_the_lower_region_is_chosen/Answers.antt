use Rattle.std.proofs.Common.{refl}
use Rattle.bal_laws.specs.WorkedMore.{one_of_two_that_waste_as_much}
use Rattle.bal_rules.specs.Interim.{whole}
use Rattle.bal_laws.proofs.RunTests.{replay-passes}
use Rattle.bal_laws.proofs.worked.of_equal_waste_the_lower_region_is_chosen.Goals as goal

pub returns : goal.returns
returns c = replay-passes whole one_of_two_that_waste_as_much.config one_of_two_that_waste_as_much.rows one_of_two_that_waste_as_much.journal refl refl
