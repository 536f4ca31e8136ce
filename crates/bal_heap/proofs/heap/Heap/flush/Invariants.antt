use Rattle.std.proofs.Common.{◌≡◌, ◌+◌, [], cond, length}
use Rattle.std.specs.Prelude.{IsTrue}
use Rattle.bal_heap.specs.Flush.{Flushes}
use Rattle.bal_heap.proofs.heap.Heap.flush.Given as goal

-- notes of the row were told, and as soon as all is flushed no card is dirty
abbrev pub invariant-loop-flushed : goal.invariant-loop-flushed
invariant-loop-flushed l = record {
  told : Flushes l.initial.self l.self l.row;
  clean : IsTrue l.flushed → l.self.objects.cards.list ≡ [];
}

abbrev pub decreases-loop-flushed : goal.decreases-loop-flushed
decreases-loop-flushed l = cond l.flushed 0 (length l.self.objects.cards.list + 1)
