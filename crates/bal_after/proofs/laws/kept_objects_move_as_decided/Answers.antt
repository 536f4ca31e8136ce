use Rattle.bal_after.proofs.Moves.{moves-name, moves-others, moves-survivor}
use Rattle.bal_after.proofs.laws.kept_objects_move_as_decided.Goals as goal

pub returns-clause-name : goal.returns-clause-name
returns-clause-name c kept p = moves-name kept p

pub returns-clause-survivor : goal.returns-clause-survivor
returns-clause-survivor c f b chosen e kept whole p k n i d at here = moves-survivor f b chosen e kept whole p k n i d at here

pub returns-clause-others : goal.returns-clause-others
returns-clause-others c f b chosen e kept whole p other = moves-others f b chosen e kept whole p other
