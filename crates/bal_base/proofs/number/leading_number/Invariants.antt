use Rattle.std.proofs.Common.{length, ◌<◌}
use Rattle.bal_base.proofs.Numbers.{IsRead}
use Rattle.bal_base.proofs.number.leading_number.Given as goal

-- the number is read from the digits before the rest, and there is one at least
abbrev pub invariant-loop-rest : goal.invariant-loop-rest
invariant-loop-rest l = record {
  some : length l.rest < length l.text;
  read : IsRead l.text l.rest l.number;
}

abbrev pub decreases-loop-rest : goal.decreases-loop-rest
decreases-loop-rest l = length l.rest
