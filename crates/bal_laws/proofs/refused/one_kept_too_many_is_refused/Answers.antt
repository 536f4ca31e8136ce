use Rattle.std.proofs.Common.{refl}
use Rattle.bal_laws.specs.Refused.{one_kept_too_many}
use Rattle.bal_laws.proofs.RefusalTests.{refused-there}
use Rattle.bal_laws.proofs.refused.one_kept_too_many_is_refused.Goals as goal

pub returns : goal.returns
returns c = refused-there one_kept_too_many refl refl
