use Rattle.std.proofs.Common.{◌≡◌, ◌+◌, ◌*◌, ◌-◌, ◌≤◌, ◌++◌, List, length, map}
use Rattle.bal_model.specs.declared.event.Packed.{Packed}
use Rattle.bal_table.specs.Moves.{moved_to}
use Rattle.bal_plan.specs.Plan.{packed_as, starts_below}
use Rattle.bal_plan.specs.Planning.{IsPlannedTo}
use Rattle.bal_plan.proofs.plan_region.Given as goal

-- the objects of the region in front of the offset are planned, and told
abbrev pub invariant-loop-offset : goal.invariant-loop-offset
invariant-loop-offset l = record {
  plan : IsPlannedTo l.table (moved_to l.moves) (l.region * l.table.shape.words + l.at) l.cursor;
  told : (before : List Packed)
      → l.initial.packed.list ≡ before ++ map (packed_as l.table (moved_to l.initial.moves)) (starts_below l.table (l.region * l.table.shape.words))
      → l.packed.list ≡ before ++ map (packed_as l.table (moved_to l.moves)) (starts_below l.table (l.region * l.table.shape.words + l.at));
  heap : length l.moves.words ≡ length l.initial.moves.words;
  count : length l.packed.list + length (starts_below l.table (l.region * l.table.shape.words))
      ≡ length l.initial.packed.list + length (starts_below l.table (l.region * l.table.shape.words + l.at));
  room : l.packed.spare + length l.packed.list ≡ l.initial.packed.spare + length l.initial.packed.list;
  within : l.at ≤ l.table.shape.words;
}

-- the offset goes up
abbrev pub decreases-loop-offset : goal.decreases-loop-offset
decreases-loop-offset l = l.table.shape.words - l.at
