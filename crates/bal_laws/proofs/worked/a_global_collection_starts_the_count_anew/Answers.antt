use Rattle.std.proofs.Common.{refl}
use Rattle.bal_laws.specs.WorkedMore.{counted_anew}
use Rattle.bal_rules.specs.Interim.{whole}
use Rattle.bal_laws.proofs.RunTests.{replay-passes}
use Rattle.bal_laws.proofs.worked.a_global_collection_starts_the_count_anew.Goals as goal

pub returns : goal.returns
returns c = replay-passes whole counted_anew.config counted_anew.rows counted_anew.journal refl refl
