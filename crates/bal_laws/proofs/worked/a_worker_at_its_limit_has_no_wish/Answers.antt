use Rattle.std.proofs.Common.{refl}
use Rattle.bal_laws.specs.WorkedMore.{copied_to_the_limit}
use Rattle.bal_rules.specs.Interim.{whole}
use Rattle.bal_laws.proofs.RunTests.{replay-passes}
use Rattle.bal_laws.proofs.worked.a_worker_at_its_limit_has_no_wish.Goals as goal

pub returns : goal.returns
returns c = replay-passes whole copied_to_the_limit.config copied_to_the_limit.rows copied_to_the_limit.journal refl refl
