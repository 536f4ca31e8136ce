use Rattle.std.proofs.Common.{refl}
use Rattle.bal_laws.specs.Refused.{a_mark_without_a_cause}
use Rattle.bal_laws.proofs.RefusalTests.{refused-there}
use Rattle.bal_laws.proofs.refused.a_mark_without_a_cause_is_refused.Goals as goal

pub returns : goal.returns
returns c = refused-there a_mark_without_a_cause refl refl
