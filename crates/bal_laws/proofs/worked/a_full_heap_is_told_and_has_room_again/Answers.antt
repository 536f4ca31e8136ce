use Rattle.std.proofs.Common.{refl}
use Rattle.bal_laws.specs.Worked.{a_full_heap}
use Rattle.bal_rules.specs.Interim.{whole}
use Rattle.bal_laws.proofs.RunTests.{replay-passes}
use Rattle.bal_laws.proofs.worked.a_full_heap_is_told_and_has_room_again.Goals as goal

pub returns : goal.returns
returns c = replay-passes whole a_full_heap.config a_full_heap.rows a_full_heap.journal refl refl
