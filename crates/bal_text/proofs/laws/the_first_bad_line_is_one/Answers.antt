use Rattle.std.proofs.Common.{◌+◌, ◌∙◌, ap, sym}
use Rattle.bal_text.proofs.TextFacts.{same_front}
use Rattle.bal_text.proofs.laws.the_first_bad_line_is_one.Goals as goal

pub returns : goal.returns
returns c = λ text n m one other.
    let same = same_front one.front other.front one.rest other.rest one.each other.each (sym one.spelled ∙ other.spelled) one.why other.why in
    one.number ∙ ap (λ k. k + 1) same ∙ sym other.number
