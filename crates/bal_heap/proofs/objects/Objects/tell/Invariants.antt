use Rattle.std.proofs.Common.{◌≡◌, ◌+◌, ◌++◌, map, take}
use Rattle.bal_model.specs.Entries.{entry_of}
use Rattle.bal_heap.specs.Flush.{entry_for}
use Rattle.bal_heap.proofs.objects.Objects.tell.Given as goal

-- the notes up to here were told
abbrev pub invariant-loop-note : goal.invariant-loop-note
invariant-loop-note l = record {
  told : map entry_of l.events.list ≡ map entry_of l.initial.events.list ++ map (entry_for l.self.table) (take l.note-index l.notes);
  room : l.events.spare + l.note-index ≡ l.initial.events.spare;
}
