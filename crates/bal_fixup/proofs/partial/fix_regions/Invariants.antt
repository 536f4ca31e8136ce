use Rattle.std.proofs.Common.{take}
use Rattle.bal_fixup.specs.Dirtied.{BecameDirty, HasReferenceIn}
use Rattle.bal_fixup.specs.Mended.{HasSameStarts}
use Rattle.bal_fixup.specs.Mending.{MendedWhere}
use Rattle.bal_fixup.specs.Placed.{lies_among}
use Rattle.bal_table.specs.Moves.{moved_to}
use Rattle.bal_table.specs.Table.{things_of}
use Rattle.bal_fixup.proofs.partial.fix_regions.Given as goal

-- the regions so far are mended
abbrev pub invariant-loop-region : goal.invariant-loop-region
invariant-loop-region l = record {
  mended : MendedWhere (things_of l.initial.table) (things_of l.table) (lies_among l.initial.table.shape (take l.region-index l.regions)) (moved_to l.moves);
  same : HasSameStarts l.initial.table l.table;
  dirty : BecameDirty l.initial.cards l.cards (HasReferenceIn l.initial.table (take l.region-index l.regions));
}
