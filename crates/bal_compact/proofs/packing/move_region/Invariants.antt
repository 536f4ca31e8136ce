use Rattle.std.proofs.Common.{◌≡◌, ◌-◌, ◌*◌, ◌≤◌}
use Rattle.bal_compact.specs.Packing.{IsMovedTo}
use Rattle.bal_compact.proofs.packing.move_region.Given as goal
use Rattle.bal_layout.specs.Addresses.{address_in}
use Rattle.bal_plan.specs.Plan.{words_into}
use Rattle.bal_table.specs.Moves.{moved_to}
use Rattle.bal_table.specs.Table.{Table}

-- the objects in front of the offset have moved, and these are the words of those that stay
abbrev pub invariant-loop-offset : goal.invariant-loop-offset
invariant-loop-offset l = record {
  moved : (before : Table) → IsMovedTo before l.initial.table (moved_to l.moves) l.region (l.region * l.initial.table.shape.words)
      → IsMovedTo before l.table (moved_to l.moves) l.region (address_in l.initial.table.shape l.region l.at);
  words : (before : Table) → IsMovedTo before l.initial.table (moved_to l.moves) l.region (l.region * l.initial.table.shape.words)
      → l.words ≡ words_into before (moved_to l.moves) (address_in l.initial.table.shape l.region l.at) l.region;
  within : l.at ≤ l.initial.table.shape.words;
  fits : l.words ≤ l.initial.table.shape.words;
}

-- the offset goes up
abbrev pub decreases-loop-offset : goal.decreases-loop-offset
decreases-loop-offset l = l.initial.table.shape.words - l.at
