use Rattle.std.proofs.Common.{refl}
use Rattle.bal_laws.specs.Worked.{nil_and_slot}
use Rattle.bal_rules.specs.Interim.{whole}
use Rattle.bal_laws.proofs.RunTests.{replay-passes}
use Rattle.bal_laws.proofs.worked.a_load_through_null_or_past_the_slots.Goals as goal

pub returns : goal.returns
returns c = replay-passes whole nil_and_slot.config nil_and_slot.rows nil_and_slot.journal refl refl
