use Rattle.bal_laws.proofs.WholeRuns.{one_whole_run}
use Rattle.bal_laws.proofs.order.a_file_has_one_whole_run.Goals as goal

pub returns : goal.returns
returns c = one_whole_run
