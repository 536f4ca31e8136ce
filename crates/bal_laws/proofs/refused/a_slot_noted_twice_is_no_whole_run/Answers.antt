use Rattle.std.proofs.Common.{refl}
use Rattle.bal_laws.specs.Refused.{a_slot_noted_twice}
use Rattle.bal_laws.proofs.WholeRefusals.{not-whole-there}
use Rattle.bal_laws.proofs.refused.a_slot_noted_twice_is_no_whole_run.Goals as goal

pub returns : goal.returns
returns c = not-whole-there a_slot_noted_twice refl refl
