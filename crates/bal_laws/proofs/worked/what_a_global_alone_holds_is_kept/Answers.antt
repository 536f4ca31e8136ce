use Rattle.std.proofs.Common.{refl}
use Rattle.bal_laws.specs.Worked.{held_by_a_global}
use Rattle.bal_rules.specs.Interim.{whole}
use Rattle.bal_laws.proofs.RunTests.{replay-passes}
use Rattle.bal_laws.proofs.worked.what_a_global_alone_holds_is_kept.Goals as goal

pub returns : goal.returns
returns c = replay-passes whole held_by_a_global.config held_by_a_global.rows held_by_a_global.journal refl refl
