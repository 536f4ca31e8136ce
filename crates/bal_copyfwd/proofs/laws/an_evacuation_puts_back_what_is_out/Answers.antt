use Rattle.bal_copyfwd.proofs.Pooled.{all-apart, numbers-out}
use Rattle.bal_copyfwd.proofs.laws.an_evacuation_puts_back_what_is_out.Goals as goal

pub returns-clause-out : goal.returns-clause-out
returns-clause-out c = numbers-out

pub returns-clause-apart : goal.returns-clause-apart
returns-clause-apart c = all-apart
