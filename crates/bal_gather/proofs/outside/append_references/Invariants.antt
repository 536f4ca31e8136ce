use Rattle.std.proofs.Common.{◌≡◌, ◌≤◌, ◌+◌, ◌++◌, length, map, take}
use Rattle.bal_gather.specs.Gathered.{reference_in}
use Rattle.bal_gather.proofs.outside.append_references.Given as goal

-- the slots so far were read, and there is room for the others
abbrev pub invariant-loop-slot : goal.invariant-loop-slot
invariant-loop-slot l = record {
  references : l.into.list ≡ l.initial.into.list ++ map (reference_in l.occupied.table) (take l.slot-index l.slots);
  kept : l.into.spare + length l.into.list ≡ l.initial.into.spare + length l.initial.into.list;
  room : length l.slots ≤ l.into.spare + l.slot-index;
}
