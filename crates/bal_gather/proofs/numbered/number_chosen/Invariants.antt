use Rattle.std.proofs.Common.{◌≡◌, ◌+◌, ◌*◌, ◌-◌, ◌≤◌}
use Rattle.bal_gather.specs.Numbers.{starts_below}
use Rattle.bal_gather.proofs.Numbering.{IsWritten}
use Rattle.bal_gather.proofs.numbered.number_chosen.Given as goal

-- the objects in front of the offset are listed, and have their numbers
abbrev pub invariant-loop-offset : goal.invariant-loop-offset
invariant-loop-offset l = record {
  addresses : l.addresses.items ≡ starts_below l.chosen (l.region * l.chosen.table.shape.words + l.at);
  written : IsWritten l.chosen l.region l.at l.numbers.items;
  within : l.at ≤ l.chosen.table.shape.words;
}

-- the offset goes up
abbrev pub decreases-loop-offset : goal.decreases-loop-offset
decreases-loop-offset l = l.chosen.table.shape.words - l.at
