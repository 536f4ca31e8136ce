use Rattle.std.proofs.Common.{◌∙◌, sym}
use Rattle.bal_text.proofs.TextFacts.{no_bad_line}
use Rattle.bal_text.proofs.laws.no_journal_has_a_bad_line.Goals as goal

pub returns : goal.returns
returns c = λ text entries n is bad.
    no_bad_line entries bad.front bad.rest is.each bad.each (sym is.spelled ∙ bad.spelled) bad.more bad.why
