use Rattle.bal_copyfwd.proofs.Returning.{decided-won, won-decided}
use Rattle.bal_copyfwd.proofs.laws.decisions_are_those_that_were_told.Goals as goal

pub returns-clause-told : goal.returns-clause-told
returns-clause-told c = λ t chosen p c k d e is. decided-won t chosen p c e k d is

pub returns-clause-decided : goal.returns-clause-decided
returns-clause-decided c = λ t chosen p c i k d e at. won-decided t chosen p c e i k d at
