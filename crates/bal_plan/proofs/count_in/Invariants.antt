use Rattle.std.proofs.Common.{◌≡◌, ◌+◌, ◌*◌, ◌-◌, ◌≤◌, length}
use Rattle.bal_plan.specs.Plan.{starts_below}
use Rattle.bal_plan.proofs.count_in.Given as goal

-- the objects of the region in front of the offset were counted
abbrev pub invariant-loop-offset : goal.invariant-loop-offset
invariant-loop-offset l = record {
  count : l.count + length (starts_below l.table (l.region * l.table.shape.words)) ≡ length (starts_below l.table (l.region * l.table.shape.words + l.at));
  within : l.at ≤ l.table.shape.words;
}

-- the offset goes up
abbrev pub decreases-loop-offset : goal.decreases-loop-offset
decreases-loop-offset l = l.table.shape.words - l.at
