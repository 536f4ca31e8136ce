use Rattle.std.proofs.Common.{refl}
use Rattle.bal_laws.specs.Refused.{an_end_that_leaves_old_garbage}
use Rattle.bal_laws.proofs.RefusalTests.{refused-there}
use Rattle.bal_laws.proofs.refused.an_end_that_leaves_old_garbage_is_refused.Goals as goal

pub returns : goal.returns
returns c = refused-there an_end_that_leaves_old_garbage refl refl
