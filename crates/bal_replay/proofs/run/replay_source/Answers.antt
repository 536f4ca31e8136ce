use Rattle.std.proofs.Common.{subst, List, ℕ}
use Rattle.bal_rows.specs.Trace.{IsTrace}
use Rattle.bal_replay.proofs.run.replay_source.Goals as goal

pub returns-in-Ok-execute : goal.returns-in-Ok-execute
returns-in-Ok-execute g c = record {
  ok = record {
    bytes = c.in-Ok.bytes.list;
    takes = record { taken = c.in-Ok.ensures.all; counted = c.in-Ok.ensures.number; most = c.in-Ok.ensures.most };
    rows = c.in-Ok-parse_trace.trace.rows.list;
    trace = subst (λ (bs : List ℕ). IsTrace c.args.config.geometry bs c.in-Ok-parse_trace.trace.rows.list) c.as_slice.ensures c.in-Ok-parse_trace.ensures.ok;
    replay = c.in-Ok-execute.ensures;
  };
  read_fault = λ e. cc e;
  too_long = (λ e. cc e, λ much. cc (c.in-Ok.ensures.too_long.1 much));
  bad_row = λ row cause e. cc e;
  no_other = tt;
  taken = c.in-Ok.ensures.front;
}
