use Rattle.std.proofs.Common.{refl}
use Rattle.bal_laws.specs.Worked.{a_held_ring}
use Rattle.bal_rules.specs.Interim.{whole}
use Rattle.bal_laws.proofs.RunTests.{replay-passes}
use Rattle.bal_laws.proofs.worked.a_held_ring_is_kept.Goals as goal

pub returns : goal.returns
returns c = replay-passes whole a_held_ring.config a_held_ring.rows a_held_ring.journal refl refl
