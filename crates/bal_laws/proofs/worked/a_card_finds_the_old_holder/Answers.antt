use Rattle.std.proofs.Common.{refl}
use Rattle.bal_laws.specs.Worked.{held_by_an_old_object}
use Rattle.bal_rules.specs.Interim.{whole}
use Rattle.bal_laws.proofs.RunTests.{replay-passes}
use Rattle.bal_laws.proofs.worked.a_card_finds_the_old_holder.Goals as goal

pub returns : goal.returns
returns c = replay-passes whole held_by_an_old_object.config held_by_an_old_object.rows held_by_an_old_object.journal refl refl
