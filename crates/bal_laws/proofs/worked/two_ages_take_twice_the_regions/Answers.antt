use Rattle.std.proofs.Common.{refl}
use Rattle.bal_laws.specs.WorkedMore.{few_regions_for_two_ages}
use Rattle.bal_rules.specs.Interim.{whole}
use Rattle.bal_laws.proofs.RunTests.{replay-passes}
use Rattle.bal_laws.proofs.worked.two_ages_take_twice_the_regions.Goals as goal

pub returns : goal.returns
returns c = replay-passes whole few_regions_for_two_ages.config few_regions_for_two_ages.rows few_regions_for_two_ages.journal refl refl
