use Rattle.bal_options.proofs.LineFacts.{one-config}
use Rattle.bal_options.proofs.laws.words_give_one_configuration.Goals as goal

pub returns : goal.returns
returns c = one-config
