use Rattle.std.proofs.Common.{refl}
use Rattle.bal_laws.specs.Refused.{an_end_that_was_left_out}
use Rattle.bal_laws.proofs.WholeRefusals.{not-whole-there}
use Rattle.bal_laws.proofs.refused.an_end_that_was_left_out_is_no_whole_run.Goals as goal

pub returns : goal.returns
returns c = not-whole-there an_end_that_was_left_out refl refl
