use Rattle.std.proofs.Common.{refl}
use Rattle.bal_laws.specs.Refused.{an_allocation_without_soft_room}
use Rattle.bal_laws.proofs.RefusalTests.{refused-there}
use Rattle.bal_laws.proofs.refused.an_allocation_without_soft_room_is_refused.Goals as goal

pub returns : goal.returns
returns c = refused-there an_allocation_without_soft_room refl refl
