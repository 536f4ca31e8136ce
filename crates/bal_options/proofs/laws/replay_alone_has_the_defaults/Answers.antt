use Rattle.bal_options.proofs.LineFacts.{defaults}
use Rattle.bal_options.proofs.laws.replay_alone_has_the_defaults.Goals as goal

pub returns : goal.returns
returns c = defaults
