use Rattle.std.proofs.Common.{◌≤◌, take}
use Rattle.bal_partial.proofs.SurvivorRegions.{HaveMarked}
use Rattle.bal_partial.proofs.telling.insert_marked.Given as goal

-- the marked objects so far have their regions there
abbrev pub invariant-loop-address : goal.invariant-loop-address
invariant-loop-address l = record {
  members : HaveMarked l.geometry (take l.address-index l.marked) l.initial.members.members l.members.members;
  room : l.initial.members.room ≤ l.members.room;
}
