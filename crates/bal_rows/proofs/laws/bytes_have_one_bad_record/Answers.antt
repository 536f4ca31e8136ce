use Rattle.std.proofs.Common.{arith}
use Rattle.bal_rows.proofs.LawFacts.{one_bad_record}
use Rattle.bal_rows.proofs.laws.bytes_have_one_bad_record.Goals as goal

pub returns : goal.returns
returns c = λ s bytes m n one other shape a b. one_bad_record s bytes m n one other (omega (arith, shape.most_words)) a b
