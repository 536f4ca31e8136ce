use Rattle.std.proofs.Common.{refl}
use Rattle.bal_rules.specs.Interim.{evacuating}
use Rattle.bal_laws.specs.Worked.{held_three_times}
use Rattle.bal_laws.proofs.RunTests.{replay-passes}
use Rattle.bal_laws.proofs.worked.an_evacuation_copies_once_what_is_held_three_times.Goals as goal

pub returns : goal.returns
returns c = replay-passes evacuating held_three_times.config held_three_times.rows held_three_times.journal refl refl
