use Rattle.std.proofs.Common.{refl}
use Rattle.bal_laws.specs.Worked.{a_dead_array}
use Rattle.bal_rules.specs.Interim.{whole}
use Rattle.bal_laws.proofs.RunTests.{replay-passes}
use Rattle.bal_laws.proofs.worked.a_dead_array_frees_its_leaf.Goals as goal

pub returns : goal.returns
returns c = replay-passes whole a_dead_array.config a_dead_array.rows a_dead_array.journal refl refl
