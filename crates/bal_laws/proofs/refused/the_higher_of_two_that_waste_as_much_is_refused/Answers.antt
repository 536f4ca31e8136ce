use Rattle.std.proofs.Common.{refl}
use Rattle.bal_laws.specs.Refused.{the_higher_of_two_that_waste_as_much}
use Rattle.bal_laws.proofs.RefusalTests.{refused-there}
use Rattle.bal_laws.proofs.refused.the_higher_of_two_that_waste_as_much_is_refused.Goals as goal

pub returns : goal.returns
returns c = refused-there the_higher_of_two_that_waste_as_much refl refl
