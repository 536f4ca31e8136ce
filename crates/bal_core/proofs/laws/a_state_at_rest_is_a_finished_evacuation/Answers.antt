use Rattle.bal_core.proofs.Evacuated.{evacuated}
use Rattle.bal_core.proofs.laws.a_state_at_rest_is_a_finished_evacuation.Goals as goal

pub returns : goal.returns
returns c s core rest = evacuated s core rest
