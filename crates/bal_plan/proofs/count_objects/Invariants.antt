use Rattle.std.proofs.Common.{◌≡◌, ◌*◌, length}
use Rattle.bal_plan.specs.Plan.{starts_below}
use Rattle.bal_plan.proofs.count_objects.Given as goal

-- the objects of the regions below this one were counted
abbrev pub invariant-loop-region : goal.invariant-loop-region
invariant-loop-region l = l.count ≡ length (starts_below l.table (l.region * l.table.shape.words))
