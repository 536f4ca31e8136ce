use Rattle.bal_rules.proofs.RunsSound.{run-sound}
use Rattle.bal_rules.proofs.laws.present_names_ascend.Goals as goal

pub returns : goal.returns
returns c rule config rows entries threads run = (run-sound rule config rows entries threads run).ascending
