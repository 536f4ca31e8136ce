use Rattle.std.proofs.Common.{refl}
use Rattle.bal_laws.specs.Refused.{a_mark_of_a_name_before_its_holder}
use Rattle.bal_laws.proofs.RefusalTests.{refused-there}
use Rattle.bal_laws.proofs.refused.a_mark_of_a_name_before_its_holder_is_refused.Goals as goal

pub returns : goal.returns
returns c = refused-there a_mark_of_a_name_before_its_holder refl refl
