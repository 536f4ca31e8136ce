use Rattle.std.proofs.Common.{refl}
use Rattle.bal_laws.specs.Refused.{a_drained_pool_with_regions_left}
use Rattle.bal_laws.proofs.RefusalTests.{refused-there}
use Rattle.bal_laws.proofs.refused.a_drained_pool_with_regions_left_is_refused.Goals as goal

pub returns : goal.returns
returns c = refused-there a_drained_pool_with_regions_left refl refl
