use Rattle.std.proofs.Common.{refl}
use Rattle.bal_laws.specs.WorkedMore.{held_by_a_second_leaf}
use Rattle.bal_rules.specs.Interim.{whole}
use Rattle.bal_laws.proofs.RunTests.{replay-passes}
use Rattle.bal_laws.proofs.worked.a_card_of_a_second_leaf_finds_the_old_array.Goals as goal

pub returns : goal.returns
returns c = replay-passes whole held_by_a_second_leaf.config held_by_a_second_leaf.rows held_by_a_second_leaf.journal refl refl
