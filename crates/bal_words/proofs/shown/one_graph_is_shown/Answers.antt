use Rattle.bal_words.proofs.Seen.{shown-agree}
use Rattle.bal_words.proofs.shown.one_graph_is_shown.Goals as goal

pub returns-clause-objects : goal.returns-clause-objects
returns-clause-objects c = shown-agree
