use Rattle.bal_region.proofs.Changed.{IsLand-placed, none-at_used, object-placed}
use Rattle.bal_region.proofs.laws.a_placed_object_is_the_only_change.Goals as goal

pub returns-clause-free : goal.returns-clause-free
returns-clause-free c = none-at_used

pub returns-clause-placed : goal.returns-clause-placed
returns-clause-placed c = object-placed

pub returns-clause-land : goal.returns-clause-land
returns-clause-land c = IsLand-placed
