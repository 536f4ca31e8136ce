use Rattle.std.proofs.Common.{refl}
use Rattle.bal_laws.specs.Refused.{a_mark_step_where_an_end_is_due}
use Rattle.bal_laws.proofs.RefusalTests.{refused-there}
use Rattle.bal_laws.proofs.refused.a_mark_step_where_an_end_is_due_is_refused.Goals as goal

pub returns : goal.returns
returns c = refused-there a_mark_step_where_an_end_is_due refl refl
