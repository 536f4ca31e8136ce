use Rattle.bal_model.proofs.Lemmas.{ends-are-walked}
use Rattle.bal_rules.proofs.Lemmas.{ends-ascend}
use Rattle.bal_laws.proofs.reachable.the_closure_is_the_ends_of_walks.Goals as goal

pub returns-clause-same : goal.returns-clause-same
returns-clause-same c = ends-are-walked

pub returns-clause-in_order : goal.returns-clause-in_order
returns-clause-in_order c = ends-ascend
