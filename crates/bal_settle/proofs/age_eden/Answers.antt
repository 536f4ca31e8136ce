use Rattle.std.proofs.Common.{ap, arith}
use Rattle.bal_layout.specs.Shape.{Shape}
use Rattle.bal_settle.proofs.Older.{older-all}
use Rattle.bal_settle.proofs.age_eden.Goals as goal

pub returns : goal.returns
returns c = older-all c.args.table.now c.loop-region.table c.loop-region.region c.loop-region.invariant (omega (
  arith,
  c.loop-region-test.false,
  c.regions-region-end.ensures.number,
  ap (λ (s : Shape). s.regions) c.geometry.ensures.shape,
  c.geometry.ensures.limits.regions,
))
