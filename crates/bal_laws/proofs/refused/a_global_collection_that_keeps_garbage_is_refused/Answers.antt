use Rattle.std.proofs.Common.{refl}
use Rattle.bal_laws.specs.Refused.{a_global_collection_that_keeps_garbage}
use Rattle.bal_laws.proofs.RefusalTests.{refused-there}
use Rattle.bal_laws.proofs.refused.a_global_collection_that_keeps_garbage_is_refused.Goals as goal

pub returns : goal.returns
returns c = refused-there a_global_collection_that_keeps_garbage refl refl
