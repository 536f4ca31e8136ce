use Rattle.std.proofs.Common.{refl}
use Rattle.bal_laws.specs.Refused.{a_note_of_a_card_elsewhere}
use Rattle.bal_laws.proofs.RefusalTests.{refused-there}
use Rattle.bal_laws.proofs.refused.a_note_of_a_card_elsewhere_is_refused.Goals as goal

pub returns : goal.returns
returns c = refused-there a_note_of_a_card_elsewhere refl refl
