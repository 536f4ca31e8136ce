use Rattle.bal_words.proofs.Moves.{roots-moved, shows-moved}
use Rattle.bal_words.proofs.moved.moved_objects_show_the_graph_that_is_kept.Goals as goal

pub returns-clause-objects : goal.returns-clause-objects
returns-clause-objects c = shows-moved

pub returns-clause-roots : goal.returns-clause-roots
returns-clause-roots c = roots-moved
