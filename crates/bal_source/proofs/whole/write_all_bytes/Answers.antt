use Rattle.std.proofs.Common.{arith}
use Rattle.std.proofs.lemmas.Grind.{common_steps}
use Rattle.bal_source.proofs.Moves.{appends_next}
use Rattle.bal_source.proofs.whole.write_all_bytes.Goals as goal

pub loop-written-preserved : goal.loop-written-preserved
loop-written-preserved g c = record {
  within = grind (arith, common_steps, c.in_ok-written.ensures.bound);
  front = appends_next _ _ _ c.args.bytes.now c.loop-written.written c.in_ok-written.field-0 c.loop-written.invariant.front c.in_ok-written.ensures.bytes;
  later = omega (arith, c.in_ok-written.ensures.cause.later);
}
