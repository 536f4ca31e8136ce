use Rattle.std.proofs.Common.{◌≡◌, ◌≤◌, take}
use Rattle.bal_gather.proofs.chosen.set_of.Given as goal

-- the regions so far are members, and there is room for all that the heap has
abbrev pub invariant-loop-region : goal.invariant-loop-region
invariant-loop-region l = record {
  members : l.members.members ≡ take l.region-index l.regions;
  room : l.occupied.table.shape.regions ≤ l.members.room;
}
