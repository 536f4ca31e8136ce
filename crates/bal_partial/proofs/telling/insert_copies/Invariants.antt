use Rattle.std.proofs.Common.{◌≤◌}
use Rattle.bal_partial.proofs.SurvivorRegions.{HaveCopies}
use Rattle.bal_partial.proofs.telling.insert_copies.Given as goal

-- the copies so far have their regions there
abbrev pub invariant-loop-told : goal.invariant-loop-told
invariant-loop-told l = record {
  members : HaveCopies l.geometry l.won l.told-index l.initial.members.members l.members.members;
  room : l.initial.members.room ≤ l.members.room;
}
