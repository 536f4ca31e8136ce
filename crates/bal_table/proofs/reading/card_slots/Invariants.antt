use Rattle.std.proofs.Common.{◌≡◌, ◌≤◌, ◌+◌, ◌-◌, ◌++◌, length}
use Rattle.bal_table.specs.Slots.{slots_between}
use Rattle.bal_table.proofs.reading.card_slots.Given as goal

-- the slots before this place have been appended
abbrev pub invariant-loop-place : goal.invariant-loop-place
invariant-loop-place g l = record {
  from : l.initial.place ≤ l.place;
  to : l.place ≤ l.end;
  slots : l.into.list ≡ l.initial.into.list ++ slots_between (g.T.Readable.table l.table) l.initial.place l.place;
  kept : l.into.spare + length l.into.list ≡ l.initial.into.spare + length l.initial.into.list;
  room : l.initial.into.spare + l.initial.place ≤ l.into.spare + l.place;
}

abbrev pub decreases-loop-place : goal.decreases-loop-place
decreases-loop-place g l = l.end - l.place
