use Rattle.bal_model.specs.Entries.{partial}
use Rattle.bal_rules.specs.Run.{board_of}
use Rattle.bal_rules.proofs.Lemmas.{kept-ascends, kept-walked, run-sound, walked-kept}
use Rattle.bal_laws.proofs.CollectionsOfRuns.{partial-in-run, run-before}
use Rattle.bal_laws.proofs.reachable.a_partial_keeps_what_is_held_from_outside.Goals as goal

pub returns-clause-just_these : goal.returns-clause-just_these
returns-clause-just_these c = λ rule k rows before behind chosen scans kept aborts run x.
    let h = partial-in-run rule k rows before chosen scans kept aborts behind run in
    (kept-walked k (board_of k before) chosen scans kept h x, walked-kept k (board_of k before) chosen scans kept h x)

pub returns-clause-in_order : goal.returns-clause-in_order
returns-clause-in_order c = λ rule k rows before behind chosen scans kept aborts threads run.
    let h = partial-in-run rule k rows before chosen scans kept aborts behind run in
    let front = run-before rule k rows before (partial chosen scans kept aborts) behind run in
    kept-ascends k (board_of k before) chosen scans kept (run-sound rule k rows before threads front) h
