use Rattle.std.proofs.Common.{refl}
use Rattle.bal_laws.specs.Refused.{a_drained_pool_with_an_unused_region}
use Rattle.bal_laws.proofs.RefusalTests.{refused-there}
use Rattle.bal_laws.proofs.refused.a_drained_pool_with_an_unused_region_is_refused.Goals as goal

pub returns : goal.returns
returns c = refused-there a_drained_pool_with_an_unused_region refl refl
