use Rattle.std.proofs.Common.{refl}
use Rattle.bal_laws.specs.Refused.{a_collection_before_its_notes}
use Rattle.bal_laws.proofs.RefusalTests.{refused-there}
use Rattle.bal_laws.proofs.refused.a_collection_before_its_notes_is_refused.Goals as goal

pub returns : goal.returns
returns c = refused-there a_collection_before_its_notes refl refl
