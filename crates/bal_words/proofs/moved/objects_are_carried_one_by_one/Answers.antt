use Rattle.bal_words.proofs.Moves.{carried-start, carried-step, carried-taken}
use Rattle.bal_words.proofs.moved.objects_are_carried_one_by_one.Goals as goal

pub returns-clause-start : goal.returns-clause-start
returns-clause-start c = carried-start

pub returns-clause-step : goal.returns-clause-step
returns-clause-step c = carried-step

pub returns-clause-taken : goal.returns-clause-taken
returns-clause-taken c = carried-taken
