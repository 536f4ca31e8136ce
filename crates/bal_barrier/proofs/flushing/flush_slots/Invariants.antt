use Rattle.std.proofs.Common.{◌≡◌, ◌+◌, ◌++◌, length, take}
use Rattle.bal_barrier.specs.Flush.{notes_of, with_notes, with_states}
use Rattle.bal_barrier.proofs.flushing.flush_slots.Given as goal

-- the slots up to here were flushed
abbrev pub invariant-loop-slot : goal.invariant-loop-slot
invariant-loop-slot l = record {
  notes : l.notes.list ≡ l.initial.notes.list ++ notes_of l.limit l.initial.table l.initial.table.regions (take l.slot-index l.slots);
  table : l.table ≡ with_states l.initial.table
      (with_notes l.limit l.initial.table.regions (notes_of l.limit l.initial.table l.initial.table.regions (take l.slot-index l.slots)));
  room : l.notes.spare + length l.notes.list ≡ l.initial.notes.spare + length l.initial.notes.list;
}
