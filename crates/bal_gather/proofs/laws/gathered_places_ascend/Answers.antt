use Rattle.bal_gather.proofs.Places.{gathered-ascend}
use Rattle.bal_gather.proofs.laws.gathered_places_ascend.Goals as goal

pub returns : goal.returns
returns c = λ l roots held places table gathered. gathered-ascend l table roots held places gathered
