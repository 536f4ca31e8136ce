use Rattle.std.proofs.Common.{refl}
use Rattle.bal_laws.specs.Refused.{a_wish_that_came_too_soon}
use Rattle.bal_laws.proofs.RefusalTests.{refused-there}
use Rattle.bal_laws.proofs.refused.a_wish_that_came_too_soon_is_refused.Goals as goal

pub returns : goal.returns
returns c = refused-there a_wish_that_came_too_soon refl refl
