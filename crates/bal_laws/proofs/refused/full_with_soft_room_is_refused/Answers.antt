use Rattle.std.proofs.Common.{refl}
use Rattle.bal_laws.specs.Refused.{full_with_soft_room}
use Rattle.bal_laws.proofs.RefusalTests.{refused-there}
use Rattle.bal_laws.proofs.refused.full_with_soft_room_is_refused.Goals as goal

pub returns : goal.returns
returns c = refused-there full_with_soft_room refl refl
