use Rattle.std.proofs.Common.{refl}
use Rattle.bal_laws.specs.Worked.{too_large_an_array}
use Rattle.bal_rules.specs.Interim.{whole}
use Rattle.bal_laws.proofs.RunTests.{replay-passes}
use Rattle.bal_laws.proofs.worked.an_array_larger_than_the_heap_is_full.Goals as goal

pub returns : goal.returns
returns c = replay-passes whole too_large_an_array.config too_large_an_array.rows too_large_an_array.journal refl refl
