use Rattle.std.proofs.Common.{refl}
use Rattle.bal_laws.specs.Refused.{a_note_into_an_overflowed_list}
use Rattle.bal_laws.proofs.RefusalTests.{refused-there}
use Rattle.bal_laws.proofs.refused.a_note_into_an_overflowed_list_is_refused.Goals as goal

pub returns : goal.returns
returns c = refused-there a_note_into_an_overflowed_list refl refl
