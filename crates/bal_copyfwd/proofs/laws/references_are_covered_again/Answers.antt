use Rattle.bal_copyfwd.proofs.Covering.{covered}
use Rattle.bal_copyfwd.proofs.laws.references_are_covered_again.Goals as goal

pub returns : goal.returns
returns c = λ t v d p. covered t v d p
