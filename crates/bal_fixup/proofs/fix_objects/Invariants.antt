use Rattle.bal_fixup.specs.Mended.{HasSameStarts}
use Rattle.bal_fixup.specs.Mending.{MendedWhere, lies_below}
use Rattle.bal_table.specs.Moves.{moved_to}
use Rattle.bal_table.specs.Table.{things_of}
use Rattle.bal_fixup.proofs.fix_objects.Given as goal

-- the objects of the regions below this one are mended, and all others are as they were
abbrev pub invariant-loop-region : goal.invariant-loop-region
invariant-loop-region l = record {
  mended : MendedWhere (things_of l.initial.table) (things_of l.table) (lies_below l.initial.table.shape l.region) (moved_to l.moves);
  same : HasSameStarts l.initial.table l.table;
}
