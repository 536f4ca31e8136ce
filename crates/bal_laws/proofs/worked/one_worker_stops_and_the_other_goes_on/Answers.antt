use Rattle.std.proofs.Common.{refl}
use Rattle.bal_laws.specs.Worked.{one_of_two_stops}
use Rattle.bal_rules.specs.Interim.{whole}
use Rattle.bal_laws.proofs.RunTests.{replay-passes}
use Rattle.bal_laws.proofs.worked.one_worker_stops_and_the_other_goes_on.Goals as goal

pub returns : goal.returns
returns c = replay-passes whole one_of_two_stops.config one_of_two_stops.rows one_of_two_stops.journal refl refl
