use Rattle.std.proofs.Common.{◌∙◌, sym}
use Rattle.bal_text.proofs.TextFacts.{one_journal}
use Rattle.bal_text.proofs.laws.a_text_is_one_journal.Goals as goal

pub returns : goal.returns
returns c = λ text one other is are. one_journal one other is.each are.each (sym is.spelled ∙ are.spelled)
