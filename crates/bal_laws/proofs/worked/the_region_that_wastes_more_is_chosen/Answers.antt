use Rattle.std.proofs.Common.{refl}
use Rattle.bal_laws.specs.WorkedMore.{the_one_that_wastes_more}
use Rattle.bal_rules.specs.Interim.{whole}
use Rattle.bal_laws.proofs.RunTests.{replay-passes}
use Rattle.bal_laws.proofs.worked.the_region_that_wastes_more_is_chosen.Goals as goal

pub returns : goal.returns
returns c = replay-passes whole the_one_that_wastes_more.config the_one_that_wastes_more.rows the_one_that_wastes_more.journal refl refl
