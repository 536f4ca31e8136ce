use Rattle.std.proofs.Common.{refl}
use Rattle.bal_laws.specs.Refused.{full_without_a_global_collection}
use Rattle.bal_laws.proofs.RefusalTests.{refused-there}
use Rattle.bal_laws.proofs.refused.full_without_a_global_collection_is_refused.Goals as goal

pub returns : goal.returns
returns c = refused-there full_without_a_global_collection refl refl
