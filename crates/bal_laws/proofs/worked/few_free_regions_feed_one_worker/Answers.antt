use Rattle.std.proofs.Common.{refl}
use Rattle.bal_laws.specs.WorkedMore.{few_regions_for_four}
use Rattle.bal_rules.specs.Interim.{whole}
use Rattle.bal_laws.proofs.RunTests.{replay-passes}
use Rattle.bal_laws.proofs.worked.few_free_regions_feed_one_worker.Goals as goal

pub returns : goal.returns
returns c = replay-passes whole few_regions_for_four.config few_regions_for_four.rows few_regions_for_four.journal refl refl
