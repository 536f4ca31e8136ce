use Rattle.std.proofs.Common.{refl}
use Rattle.bal_laws.specs.Refused.{a_row_that_is_not_in_the_trace}
use Rattle.bal_laws.proofs.RefusalTests.{refused-there}
use Rattle.bal_laws.proofs.refused.a_row_that_is_not_in_the_trace_is_refused.Goals as goal

pub returns : goal.returns
returns c = refused-there a_row_that_is_not_in_the_trace refl refl
