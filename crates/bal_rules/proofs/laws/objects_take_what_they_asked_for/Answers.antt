use Rattle.bal_rules.proofs.RunsOccupied.{run-occupied}
use Rattle.bal_rules.proofs.laws.objects_take_what_they_asked_for.Goals as goal

pub returns : goal.returns
returns c = run-occupied
