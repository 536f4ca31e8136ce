use Rattle.bal_rules.specs.Run.{board_of}
use Rattle.bal_rules.proofs.Lemmas.{swept-unreached}
use Rattle.bal_laws.proofs.CollectionsOfRuns.{end-in-run}
use Rattle.bal_laws.proofs.reachable.a_mark_cycle_takes_nothing_that_can_be_reached.Goals as goal

pub returns : goal.returns
returns c = λ rule k rows before behind dead run. swept-unreached (board_of k before) dead (end-in-run rule k rows before dead behind run)
