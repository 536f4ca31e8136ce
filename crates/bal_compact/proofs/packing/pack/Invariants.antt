use Rattle.std.proofs.Common.{◌≡◌, ◌*◌}
use Rattle.bal_compact.specs.Packing.{IsMovedTo}
use Rattle.bal_table.specs.Moves.{moved_to}
use Rattle.bal_compact.proofs.packing.pack.Given as goal

-- the objects of the regions below this one have moved
abbrev pub invariant-loop-region : goal.invariant-loop-region
invariant-loop-region l = record {
  moved : IsMovedTo l.fn.table l.table (moved_to l.moves) l.region (l.region * l.table.shape.words);
  shape : l.cards.shape ≡ l.fn.table.shape;
}
