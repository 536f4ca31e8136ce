use Rattle.std.proofs.Common.{refl}
use Rattle.bal_laws.specs.WorkedMore.{full_with_gaps}
use Rattle.bal_rules.specs.Interim.{whole}
use Rattle.bal_laws.proofs.RunTests.{replay-passes}
use Rattle.bal_laws.proofs.worked.a_heap_with_gaps_may_be_full.Goals as goal

pub returns : goal.returns
returns c = replay-passes whole full_with_gaps.config full_with_gaps.rows full_with_gaps.journal refl refl
