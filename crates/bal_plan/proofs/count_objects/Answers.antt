use Rattle.std.proofs.Common.{◌+◌, ◌*◌, ◌<◌, ap, arith}
use Rattle.bal_layout.specs.Shape.{Shape}
use Rattle.bal_plan.proofs.Found.{region-ends, region-within}
use Rattle.bal_plan.proofs.Starts.{starts-few}
use Rattle.bal_plan.proofs.count_objects.Goals as goal

pub overflow_add-count : goal.overflow_add-count
overflow_add-count c =
    let t = c.args.table.now in
    let q = c.loop-region.region in
    let within : q < t.shape.regions = omega (arith, c.loop-region-test.true, c.regions-region-end.ensures.number, ap (λ (s : Shape). s.regions) c.geometry.ensures.shape) in
    omega (
      arith,
      c.loop-region.invariant,
      c.count_in-count.ensures,
      starts-few t ((q + 1) * t.shape.words),
      region-ends t q 0 c.geometry.ensures.limits within,
      region-within t q 0 c.geometry.ensures.limits within,
    )
