use Rattle.bal_rules.proofs.Lemmas.{run-sound}
use Rattle.bal_laws.proofs.reachable.no_reference_dangles.Goals as goal

pub returns-clause-in_objects : goal.returns-clause-in_objects
returns-clause-in_objects c = λ rule k rows entries threads run. (run-sound rule k rows entries threads run).closed

pub returns-clause-in_roots : goal.returns-clause-in_roots
returns-clause-in_roots c = λ rule k rows entries threads run. (run-sound rule k rows entries threads run).roots
