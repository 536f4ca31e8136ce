use Rattle.bal_core.proofs.Walks.{decided-walk}
use Rattle.bal_core.proofs.laws.decided_objects_end_walks_of_decided_objects.Goals as goal

pub returns : goal.returns
returns c s k core decided = decided-walk s core k decided
