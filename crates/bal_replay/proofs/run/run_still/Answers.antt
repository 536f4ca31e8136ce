use Rattle.std.proofs.Common.{sym, subst}
use Rattle.bal_replay.specs.Outcome.{Tells, writing_of}
use Rattle.bal_replay.specs.Statuses.{line_of}
use Rattle.bal_replay.specs.declared.status.Status.{Status}
use Rattle.bal_replay.proofs.CompleteFacts.{decides, fixed-line}
use Rattle.bal_replay.proofs.run.run_still.Goals as goal

pub returns-in_default : goal.returns-in_default
returns-in_default g c =
    let line = fixed-line c.replay-outcome.result.status c.in_default.not-BadRow in
    record {
      run = c.replay-outcome.ensures.run;
      decided = decides _ _ _ _ _ _ _ c.replay-outcome.ensures.run;
      spares = c.replay-outcome.ensures.spares;
      line = rw (sym line) c.tell.ensures;
    }

pub returns-in-Ok-clause-decided : goal.returns-in-Ok-clause-decided
returns-in-Ok-clause-decided g c = decides _ _ _ _ _ _ _ c.replay-outcome.ensures.run

pub returns-in-Ok-clause-line : goal.returns-in-Ok-clause-line
returns-in-Ok-clause-line g c =
    subst (λ (s : Status). Tells (writing_of g.E.Sink.held g.E.Sink.faults c.args.err.now) (writing_of g.E.Sink.held g.E.Sink.faults c.tell_bad_row.new.err) (line_of s))
    (sym c.in-BadRow.is) c.in-Ok.ensures.ok
