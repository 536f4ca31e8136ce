use Rattle.std.proofs.Common.{refl, sym}
use Rattle.bal_text.proofs.Lemmas.{one_journal}
use Rattle.bal_laws.proofs.RunLines.{run-lines}
use Rattle.bal_laws.proofs.texts.every_run_has_a_text.Goals as goal

pub returns-clause-is_a_journal : goal.returns-clause-is_a_journal
returns-clause-is_a_journal c rule config rows entries limits in_range few run = record {
  each = run-lines rule config rows entries limits.geometry limits.workers.1 in_range few run;
  spelled = refl;
}

pub returns-clause-of_no_other : goal.returns-clause-of_no_other
returns-clause-of_no_other c rule config rows entries other limits in_range few run is =
    one_journal other entries is.each (run-lines rule config rows entries limits.geometry limits.workers.1 in_range few run) (sym is.spelled)
