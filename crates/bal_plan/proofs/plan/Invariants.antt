use Rattle.std.proofs.Common.{◌≡◌, ◌+◌, ◌*◌, ◌++◌, length, map}
use Rattle.bal_table.specs.Moves.{moved_to}
use Rattle.bal_plan.specs.Plan.{packed_as, starts_below}
use Rattle.bal_plan.specs.Planning.{IsPlannedTo}
use Rattle.bal_plan.proofs.plan.Given as goal

-- the objects of the regions below this one are planned, and told
abbrev pub invariant-loop-region : goal.invariant-loop-region
invariant-loop-region l = record {
  plan : IsPlannedTo l.table (moved_to l.moves) (l.region * l.table.shape.words) l.cursor;
  told : l.packed.list ≡ l.initial.packed.list ++ map (packed_as l.table (moved_to l.moves)) (starts_below l.table (l.region * l.table.shape.words));
  heap : length l.moves.words ≡ l.table.shape.regions * l.table.shape.words;
  room : l.packed.spare + length l.packed.list ≡ l.initial.packed.spare + length l.initial.packed.list;
}
