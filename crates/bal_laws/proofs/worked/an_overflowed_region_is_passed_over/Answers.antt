use Rattle.std.proofs.Common.{refl}
use Rattle.bal_laws.specs.Worked.{an_overflowed_list}
use Rattle.bal_rules.specs.Interim.{whole}
use Rattle.bal_laws.proofs.RunTests.{replay-passes}
use Rattle.bal_laws.proofs.worked.an_overflowed_region_is_passed_over.Goals as goal

pub returns : goal.returns
returns c = replay-passes whole an_overflowed_list.config an_overflowed_list.rows an_overflowed_list.journal refl refl
