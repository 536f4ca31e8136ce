use Rattle.std.proofs.Common.{refl}
use Rattle.bal_laws.specs.Worked.{marked_in_place}
use Rattle.bal_rules.specs.Interim.{whole}
use Rattle.bal_laws.proofs.RunTests.{replay-passes}
use Rattle.bal_laws.proofs.worked.a_worker_that_wishes_at_once_marks_in_place.Goals as goal

pub returns : goal.returns
returns c = replay-passes whole marked_in_place.config marked_in_place.rows marked_in_place.journal refl refl
