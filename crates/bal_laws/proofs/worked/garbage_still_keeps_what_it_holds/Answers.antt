use Rattle.std.proofs.Common.{refl}
use Rattle.bal_laws.specs.Worked.{held_by_garbage}
use Rattle.bal_rules.specs.Interim.{whole}
use Rattle.bal_laws.proofs.RunTests.{replay-passes}
use Rattle.bal_laws.proofs.worked.garbage_still_keeps_what_it_holds.Goals as goal

pub returns : goal.returns
returns c = replay-passes whole held_by_garbage.config held_by_garbage.rows held_by_garbage.journal refl refl
