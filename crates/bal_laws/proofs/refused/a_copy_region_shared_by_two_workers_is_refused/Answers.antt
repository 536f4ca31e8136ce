use Rattle.std.proofs.Common.{refl}
use Rattle.bal_laws.specs.Refused.{a_copy_region_shared_by_two_workers}
use Rattle.bal_laws.proofs.RefusalTests.{refused-there}
use Rattle.bal_laws.proofs.refused.a_copy_region_shared_by_two_workers_is_refused.Goals as goal

pub returns : goal.returns
returns c = refused-there a_copy_region_shared_by_two_workers refl refl
