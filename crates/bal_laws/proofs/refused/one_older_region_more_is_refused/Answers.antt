use Rattle.std.proofs.Common.{refl}
use Rattle.bal_laws.specs.Refused.{one_older_region_more}
use Rattle.bal_laws.proofs.RefusalTests.{refused-there}
use Rattle.bal_laws.proofs.refused.one_older_region_more_is_refused.Goals as goal

pub returns : goal.returns
returns c = refused-there one_older_region_more refl refl
