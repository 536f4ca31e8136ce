use Rattle.std.proofs.Common.{refl}
use Rattle.bal_rules.specs.Interim.{noting}
use Rattle.bal_laws.specs.WorkedMore.{noted_before_a_placement}
use Rattle.bal_laws.proofs.RunTests.{replay-passes}
use Rattle.bal_laws.proofs.worked.a_flush_comes_before_a_placement.Goals as goal

pub returns : goal.returns
returns c = replay-passes noting noted_before_a_placement.config noted_before_a_placement.rows noted_before_a_placement.journal refl refl
