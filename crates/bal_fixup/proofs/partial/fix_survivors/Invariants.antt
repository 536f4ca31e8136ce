use Rattle.std.proofs.Common.{◌-◌, ◌≤◌}
use Rattle.bal_fixup.specs.Dirtied.{BecameDirty, HasReference}
use Rattle.bal_fixup.specs.Mended.{HasSameStarts}
use Rattle.bal_fixup.specs.Mending.{MendedWhere, lies_before}
use Rattle.bal_table.specs.Moves.{moved_to}
use Rattle.bal_table.specs.Table.{things_of}
use Rattle.bal_table.proofs.Lemmas.{Before}
use Rattle.bal_fixup.proofs.partial.fix_survivors.Given as goal

-- the objects of the region that start before this offset are mended and their cards are dirty, and all others are as they were
abbrev pub invariant-loop-offset : goal.invariant-loop-offset
invariant-loop-offset l = record {
  mended : MendedWhere (things_of l.initial.table) (things_of l.table) (lies_before l.initial.table.shape l.region l.at) (moved_to l.moves);
  same : HasSameStarts l.initial.table l.table;
  dirty : BecameDirty l.initial.cards l.cards (HasReference l.initial.table (Before l.initial.table l.region l.at));
  within : l.at ≤ l.initial.table.shape.words;
}

abbrev pub decreases-loop-offset : goal.decreases-loop-offset
decreases-loop-offset l = l.initial.table.shape.words - l.at
