use Rattle.bal_rows.proofs.LawFacts.{not-both}
use Rattle.bal_rows.proofs.laws.no_trace_has_a_bad_record.Goals as goal

pub returns : goal.returns
returns c = not-both
