use Rattle.std.proofs.Common.{refl}
use Rattle.bal_laws.specs.Refused.{more_copies_than_fit}
use Rattle.bal_laws.proofs.RefusalTests.{refused-there}
use Rattle.bal_laws.proofs.refused.more_copies_than_fit_is_refused.Goals as goal

pub returns : goal.returns
returns c = refused-there more_copies_than_fit refl refl
