use Rattle.bal_barrier.proofs.Numbers.{covered-number}
use Rattle.bal_barrier.proofs.laws.a_written_number_covers_nothing.Goals as goal

pub returns : goal.returns
returns c = covered-number
