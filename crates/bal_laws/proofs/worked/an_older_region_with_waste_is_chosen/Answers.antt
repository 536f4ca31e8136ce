use Rattle.std.proofs.Common.{refl}
use Rattle.bal_laws.specs.WorkedMore.{an_older_region}
use Rattle.bal_rules.specs.Interim.{whole}
use Rattle.bal_laws.proofs.RunTests.{replay-passes}
use Rattle.bal_laws.proofs.worked.an_older_region_with_waste_is_chosen.Goals as goal

pub returns : goal.returns
returns c = replay-passes whole an_older_region.config an_older_region.rows an_older_region.journal refl refl
