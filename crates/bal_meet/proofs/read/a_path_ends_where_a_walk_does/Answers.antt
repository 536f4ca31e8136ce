use Rattle.bal_meet.proofs.Ways.{path-ends}
use Rattle.bal_meet.proofs.read.a_path_ends_where_a_walk_does.Goals as goal

pub returns : goal.returns
returns c = path-ends
