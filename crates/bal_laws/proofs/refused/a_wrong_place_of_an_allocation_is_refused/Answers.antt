use Rattle.std.proofs.Common.{refl}
use Rattle.bal_laws.specs.Refused.{a_wrong_place_of_an_allocation}
use Rattle.bal_laws.proofs.RefusalTests.{refused-there}
use Rattle.bal_laws.proofs.refused.a_wrong_place_of_an_allocation_is_refused.Goals as goal

pub returns : goal.returns
returns c = refused-there a_wrong_place_of_an_allocation refl refl
