use Rattle.bal_laws.proofs.RowOrder.{run-in-order}
use Rattle.bal_laws.proofs.order.row_events_are_numbered.Goals as goal

pub returns : goal.returns
returns c rule config rows entries run t = (run-in-order rule config rows entries run t).numbers
