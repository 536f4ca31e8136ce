use Rattle.bal_copyfwd.proofs.Carrying.{survivors-carried}
use Rattle.bal_copyfwd.proofs.laws.survivors_are_carried.Goals as goal

pub returns : goal.returns
returns c = survivors-carried
