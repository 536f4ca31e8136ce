use Rattle.bal_laws.proofs.RowOrder.{run-in-order}
use Rattle.bal_laws.proofs.order.each_threads_rows_are_in_order.Goals as goal

pub returns : goal.returns
returns c rule config rows entries run t = (run-in-order rule config rows entries run t).rows_in_order
