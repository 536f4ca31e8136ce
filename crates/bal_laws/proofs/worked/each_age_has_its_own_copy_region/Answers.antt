use Rattle.std.proofs.Common.{refl}
use Rattle.bal_laws.specs.WorkedMore.{a_region_for_each_age}
use Rattle.bal_rules.specs.Interim.{whole}
use Rattle.bal_laws.proofs.RunTests.{replay-passes}
use Rattle.bal_laws.proofs.worked.each_age_has_its_own_copy_region.Goals as goal

pub returns : goal.returns
returns c = replay-passes whole a_region_for_each_age.config a_region_for_each_age.rows a_region_for_each_age.journal refl refl
