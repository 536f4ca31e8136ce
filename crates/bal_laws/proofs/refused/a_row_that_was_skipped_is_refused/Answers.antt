use Rattle.std.proofs.Common.{refl}
use Rattle.bal_laws.specs.Refused.{a_row_that_was_skipped}
use Rattle.bal_laws.proofs.RefusalTests.{refused-there}
use Rattle.bal_laws.proofs.refused.a_row_that_was_skipped_is_refused.Goals as goal

pub returns : goal.returns
returns c = refused-there a_row_that_was_skipped refl refl
