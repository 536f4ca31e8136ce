use Rattle.std.proofs.Common.{◌++◌, ℕ, ap, ◌∙◌, arith}
use Rattle.bal_told.specs.Telling.{told_by, told_up_to}
use Rattle.bal_told.proofs.Lines.{tellable, told-alone}
use Rattle.bal_told.proofs.Lists.{part-more}
use Rattle.bal_told.proofs.laws.survivors_are_told_worker_by_worker.Goals as goal

pub returns-clause-tellable : goal.returns-clause-tellable
returns-clause-tellable c e n is = tellable e is n

pub returns-clause-more : goal.returns-clause-more
returns-clause-more c e n = part-more (told_by e) 0 n ∙ ap (λ (m : ℕ). told_up_to e n ++ told_by e m) (omega arith)

pub returns-clause-alone : goal.returns-clause-alone
returns-clause-alone c e one = told-alone e one
