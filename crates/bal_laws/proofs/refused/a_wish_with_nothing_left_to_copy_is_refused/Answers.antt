use Rattle.std.proofs.Common.{refl}
use Rattle.bal_laws.specs.Refused.{a_wish_with_nothing_left_to_copy}
use Rattle.bal_laws.proofs.RefusalTests.{refused-there}
use Rattle.bal_laws.proofs.refused.a_wish_with_nothing_left_to_copy_is_refused.Goals as goal

pub returns : goal.returns
returns c = refused-there a_wish_with_nothing_left_to_copy refl refl
