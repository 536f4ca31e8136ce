use Rattle.std.proofs.Common.{◌≡◌, ◌≤◌, ◌+◌, ◌++◌, length, max, min}
use Rattle.bal_table.specs.Slots.{slots_between}
use Rattle.bal_table.proofs.reading.object_slots.Given as goal

-- the slots before this place have been appended
abbrev pub invariant-loop-at : goal.invariant-loop-at
invariant-loop-at g l = record {
  to : l.at ≤ max l.initial.at (min l.behind l.end);
  slots : l.into.list ≡ l.initial.into.list ++ slots_between (g.T.Readable.table l.table) l.place l.at;
  kept : l.into.spare + length l.into.list ≡ l.initial.into.spare + length l.initial.into.list;
  room : l.initial.into.spare + l.initial.at ≤ l.into.spare + l.at;
}
