use Rattle.bal_replay.proofs.ReplayFacts.{written}
use Rattle.bal_replay.proofs.run.replay.Goals as goal

pub returns-in-Ok-clause-run : goal.returns-in-Ok-clause-run
returns-in-Ok-clause-run g c =
    let read = c.in-Ok.ensures in
    let wrote = c.write_journal.ensures in
    written _ _ _ _ _ _ _ c.in-Ok.heap (record { config = c.in-Some.config; command = c.in-Some.ensures.read; replay = read.ok }) read.taken
    (λ much. cc (read.too_long.1 much)) wrote.ok wrote.cut_short wrote.write_fault wrote.no_other
