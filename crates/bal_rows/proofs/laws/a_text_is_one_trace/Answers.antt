use Rattle.std.proofs.Common.{arith}
use Rattle.csv.specs.Reading.{strip_bom}
use Rattle.csv.specs.declared.parser.State.TheVariants as st
use Rattle.bal_rows.proofs.LawFacts.{one_reading}
use Rattle.bal_rows.proofs.laws.a_text_is_one_trace.Goals as goal

pub returns : goal.returns
returns c = λ s bytes one other shape a b.
    one_reading s st.StartRecord (strip_bom bytes) one other (omega (arith, shape.most_words)) a.spelled b.spelled a.each_row b.each_row
