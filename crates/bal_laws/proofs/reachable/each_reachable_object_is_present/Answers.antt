use Rattle.bal_rules.specs.Run.{board_of}
use Rattle.bal_rules.proofs.Lemmas.{reachable-present, run-sound}
use Rattle.bal_laws.proofs.reachable.each_reachable_object_is_present.Goals as goal

pub returns : goal.returns
returns c = λ rule k rows entries threads run. reachable-present (board_of k entries) (run-sound rule k rows entries threads run)
