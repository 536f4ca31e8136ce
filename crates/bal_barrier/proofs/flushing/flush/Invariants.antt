use Rattle.std.proofs.Common.{◌≡◌, ◌+◌, ◌<◌, length}
use Rattle.std.specs.Prelude.{IfSome, slice_get}
use Rattle.bal_base.specs.Bits.{IsAscending}
use Rattle.bal_layout.specs.Addresses.{cards_of}
use Rattle.bal_barrier.specs.Coverage.{IsCovered}
use Rattle.bal_barrier.specs.Flush.{IsFlushed}
use Rattle.bal_barrier.proofs.flushing.flush.Given as goal

-- some dirty cards were flushed, and the next one is the first that is left
abbrev pub invariant-loop-next : goal.invariant-loop-next
invariant-loop-next l = record {
  flushed : IsFlushed l.limit l.initial.table l.table l.initial.cards l.cards l.initial.notes.list l.notes.list;
  shape : l.cards.shape ≡ l.table.shape;
  ascending : IsAscending l.cards.list;
  next : slice_get l.cards.list 0 ≡ l.next;
  within : IfSome l.next (λ card. card < cards_of l.table.shape);
  scratch : l.slots.spare + length l.slots.list ≡ l.initial.slots.spare + length l.initial.slots.list;
  room : l.notes.spare + length l.notes.list ≡ l.initial.notes.spare + length l.initial.notes.list;
  covered : IsCovered l.initial.table l.initial.cards → IsCovered l.table l.cards;
}

abbrev pub decreases-loop-next : goal.decreases-loop-next
decreases-loop-next l = length l.cards.list
