use Rattle.std.proofs.Common.{refl}
use Rattle.bal_laws.specs.Refused.{a_note_from_the_inside}
use Rattle.bal_laws.proofs.RefusalTests.{refused-there}
use Rattle.bal_laws.proofs.refused.a_note_from_the_inside_is_refused.Goals as goal

pub returns : goal.returns
returns c = refused-there a_note_from_the_inside refl refl
