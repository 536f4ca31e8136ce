use Rattle.bal_rules.specs.Run.{board_of}
use Rattle.bal_rules.proofs.Lemmas.{dead-unreached, unreached-dead}
use Rattle.bal_laws.proofs.CollectionsOfRuns.{global-in-run}
use Rattle.bal_laws.proofs.reachable.a_global_takes_just_what_cannot_be_reached.Goals as goal

pub returns : goal.returns
returns c = λ rule k rows before behind dead packed run x.
    let h = global-in-run rule k rows before dead packed behind run in
    (dead-unreached k (board_of k before) dead packed h x, λ both. unreached-dead k (board_of k before) dead packed h x both.0 both.1)
