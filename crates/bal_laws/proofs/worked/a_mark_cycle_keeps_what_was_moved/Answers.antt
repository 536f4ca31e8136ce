use Rattle.std.proofs.Common.{refl}
use Rattle.bal_laws.specs.Worked.{a_mark_cycle}
use Rattle.bal_rules.specs.Interim.{whole}
use Rattle.bal_laws.proofs.RunTests.{replay-passes}
use Rattle.bal_laws.proofs.worked.a_mark_cycle_keeps_what_was_moved.Goals as goal

pub returns : goal.returns
returns c = replay-passes whole a_mark_cycle.config a_mark_cycle.rows a_mark_cycle.journal refl refl
