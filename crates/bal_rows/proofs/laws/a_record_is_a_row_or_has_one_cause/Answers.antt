use Rattle.std.proofs.Common.{arith}
use Rattle.bal_rows.proofs.CauseFacts.{no-cause, one-cause}
use Rattle.bal_rows.proofs.EitherFacts.{either}
use Rattle.bal_rows.proofs.laws.a_record_is_a_row_or_has_one_cause.Goals as goal

pub returns-clause-either : goal.returns-clause-either
returns-clause-either c = either

pub returns-clause-not_both : goal.returns-clause-not_both
returns-clause-not_both c = λ s cells r why shape is e. no-cause s cells r why (omega (arith, shape.most_words)) is e

pub returns-clause-not_two : goal.returns-clause-not_two
returns-clause-not_two c = one-cause
