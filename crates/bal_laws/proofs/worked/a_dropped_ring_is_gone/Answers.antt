use Rattle.std.proofs.Common.{refl}
use Rattle.bal_laws.specs.Worked.{a_dropped_ring}
use Rattle.bal_rules.specs.Interim.{whole}
use Rattle.bal_laws.proofs.RunTests.{replay-passes}
use Rattle.bal_laws.proofs.worked.a_dropped_ring_is_gone.Goals as goal

pub returns : goal.returns
returns c = replay-passes whole a_dropped_ring.config a_dropped_ring.rows a_dropped_ring.journal refl refl
