use Rattle.bal_core.proofs.Stays.{stays-all}
use Rattle.bal_core.proofs.laws.decisions_stay.Goals as goal

pub returns : goal.returns
returns c s events k d word = stays-all events s k d word
