use Rattle.std.proofs.Common.{refl}
use Rattle.bal_laws.specs.Refused.{a_card_noted_twice}
use Rattle.bal_laws.proofs.RefusalTests.{refused-there}
use Rattle.bal_laws.proofs.refused.a_card_noted_twice_is_refused.Goals as goal

pub returns : goal.returns
returns c = refused-there a_card_noted_twice refl refl
