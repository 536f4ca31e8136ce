use Rattle.std.proofs.Common.{refl}
use Rattle.bal_laws.specs.Refused.{the_one_that_wastes_less}
use Rattle.bal_laws.proofs.RefusalTests.{refused-there}
use Rattle.bal_laws.proofs.refused.the_one_that_wastes_less_is_refused.Goals as goal

pub returns : goal.returns
returns c = refused-there the_one_that_wastes_less refl refl
