use Rattle.std.proofs.Common.{refl}
use Rattle.bal_laws.specs.Refused.{a_survivor_left_out}
use Rattle.bal_laws.proofs.RefusalTests.{refused-there}
use Rattle.bal_laws.proofs.refused.a_survivor_left_out_is_refused.Goals as goal

pub returns : goal.returns
returns c = refused-there a_survivor_left_out refl refl
