use Rattle.std.proofs.Common.{◌≡◌, ◌≤◌, ◌-◌}
use Rattle.std.specs.List.{filter}
use Rattle.bal_cards.specs.Between.{outside}
use Rattle.bal_cards.proofs.remove_between.Given as goal

-- the numbers up to here were taken out
abbrev pub invariant-loop-number : goal.invariant-loop-number
invariant-loop-number l = record {
  members : l.bits.members ≡ filter (outside l.from l.at) l.initial.bits.members;
  room : l.initial.bits.room ≤ l.bits.room;
  from : l.from ≤ l.at;
  to : l.at ≤ l.to;
}

abbrev pub decreases-loop-number : goal.decreases-loop-number
decreases-loop-number l = l.to - l.at
