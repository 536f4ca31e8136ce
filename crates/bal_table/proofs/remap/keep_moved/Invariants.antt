use Rattle.std.proofs.Common.{◌≡◌}
use Rattle.bal_base.specs.Bits.{is_member}
use Rattle.bal_table.specs.Moves.{moved_to}
use Rattle.bal_table.proofs.InPlace.{IsInPlace}
use Rattle.bal_table.proofs.remap.keep_moved.Given as goal

-- the members so far stand in front, each where its object is
abbrev pub invariant-loop-i : goal.invariant-loop-i
invariant-loop-i l = record {
  place : IsInPlace (is_member l.bits.members) (moved_to l.moves) l.fn.order.list l.order.list l.kept l.i;
  spare : l.order.spare ≡ l.fn.order.spare;
}
