use Rattle.std.proofs.Common.{[]}
use Rattle.bal_laws.proofs.Cuts.{one-cut}
use Rattle.bal_laws.proofs.order.a_whole_run_has_one_cut.Goals as goal

pub returns : goal.returns
returns c rule config rows = one-cut rule config rows []
