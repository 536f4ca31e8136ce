use Rattle.std.proofs.Common.{refl}
use Rattle.bal_laws.specs.Refused.{a_collection_for_a_load}
use Rattle.bal_laws.proofs.RefusalTests.{refused-there}
use Rattle.bal_laws.proofs.refused.a_collection_for_a_load_is_refused.Goals as goal

pub returns : goal.returns
returns c = refused-there a_collection_for_a_load refl refl
