use Rattle.bal_core.proofs.Walks.{rest-exact}
use Rattle.bal_core.proofs.laws.at_rest_just_what_is_reached_is_decided.Goals as goal

pub returns : goal.returns
returns c s k core rest = rest-exact s core rest k
