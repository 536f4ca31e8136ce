use Rattle.bal_region.proofs.Changed.{IsLand-removed, object-removed}
use Rattle.bal_region.proofs.laws.a_removed_object_is_the_only_change.Goals as goal

pub returns-clause-removed : goal.returns-clause-removed
returns-clause-removed c = object-removed

pub returns-clause-land : goal.returns-clause-land
returns-clause-land c = IsLand-removed
