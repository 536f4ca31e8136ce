use Rattle.std.proofs.Common.{refl}
use Rattle.bal_laws.specs.Refused.{an_overflowed_region_chosen}
use Rattle.bal_laws.proofs.RefusalTests.{refused-there}
use Rattle.bal_laws.proofs.refused.an_overflowed_region_chosen_is_refused.Goals as goal

pub returns : goal.returns
returns c = refused-there an_overflowed_region_chosen refl refl
