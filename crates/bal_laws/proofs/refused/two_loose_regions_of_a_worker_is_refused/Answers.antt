use Rattle.std.proofs.Common.{refl}
use Rattle.bal_laws.specs.Refused.{two_loose_regions_of_a_worker}
use Rattle.bal_laws.proofs.RefusalTests.{refused-there}
use Rattle.bal_laws.proofs.refused.two_loose_regions_of_a_worker_is_refused.Goals as goal

pub returns : goal.returns
returns c = refused-there two_loose_regions_of_a_worker refl refl
