use Rattle.std.proofs.Common.{refl}
use Rattle.bal_laws.specs.Refused.{an_older_region_passed_over}
use Rattle.bal_laws.proofs.RefusalTests.{refused-there}
use Rattle.bal_laws.proofs.refused.an_older_region_passed_over_is_refused.Goals as goal

pub returns : goal.returns
returns c = refused-there an_older_region_passed_over refl refl
