use Rattle.bal_core.proofs.Apart.{copies-apart}
use Rattle.bal_core.proofs.laws.copies_do_not_overlap.Goals as goal

pub returns : goal.returns
returns c s n m i j k l a b core one two other = copies-apart s core n m i j k l a b one two other
