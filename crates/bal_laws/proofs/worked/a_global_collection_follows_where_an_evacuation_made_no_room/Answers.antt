use Rattle.std.proofs.Common.{refl}
use Rattle.bal_rules.specs.Interim.{evacuating}
use Rattle.bal_laws.specs.WorkedPartial.{full_after_four_collections}
use Rattle.bal_laws.proofs.RunTests.{replay-passes}
use Rattle.bal_laws.proofs.worked.a_global_collection_follows_where_an_evacuation_made_no_room.Goals as goal

pub returns : goal.returns
returns c = replay-passes evacuating full_after_four_collections.config full_after_four_collections.rows full_after_four_collections.journal refl refl
