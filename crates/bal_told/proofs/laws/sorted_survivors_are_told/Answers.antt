use Rattle.bal_told.proofs.Lines.{told-in-order}
use Rattle.bal_told.proofs.laws.sorted_survivors_are_told.Goals as goal

pub returns : goal.returns
returns c e kept is apart moved sorted = told-in-order e is apart kept moved sorted
