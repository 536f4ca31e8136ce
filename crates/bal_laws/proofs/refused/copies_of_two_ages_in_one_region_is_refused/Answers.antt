use Rattle.std.proofs.Common.{refl}
use Rattle.bal_laws.specs.Refused.{copies_of_two_ages_in_one_region}
use Rattle.bal_laws.proofs.RefusalTests.{refused-there}
use Rattle.bal_laws.proofs.refused.copies_of_two_ages_in_one_region_is_refused.Goals as goal

pub returns : goal.returns
returns c = refused-there copies_of_two_ages_in_one_region refl refl
