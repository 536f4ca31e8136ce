use Rattle.std.proofs.Common.{◌≡◌, take}
use Rattle.bal_fixup.specs.Dirtied.{with_dirty_places}
use Rattle.bal_fixup.specs.Placed.{with_mended}
use Rattle.bal_table.specs.Moves.{moved_to}
use Rattle.bal_fixup.proofs.partial.fix_places.Given as goal

-- the places so far are mended
abbrev pub invariant-loop-place : goal.invariant-loop-place
invariant-loop-place l = record {
  mended : l.table ≡ with_mended (moved_to l.moves) (take l.place-index l.places) l.initial.table;
  dirty : l.cards ≡ with_dirty_places (take l.place-index l.places) l.initial.cards;
}
