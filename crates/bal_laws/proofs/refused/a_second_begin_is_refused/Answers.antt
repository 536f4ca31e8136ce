use Rattle.std.proofs.Common.{refl}
use Rattle.bal_laws.specs.Refused.{a_second_begin}
use Rattle.bal_laws.proofs.RefusalTests.{refused-there}
use Rattle.bal_laws.proofs.refused.a_second_begin_is_refused.Goals as goal

pub returns : goal.returns
returns c = refused-there a_second_begin refl refl
