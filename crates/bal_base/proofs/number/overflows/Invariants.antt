use Rattle.std.proofs.Common.{length, ◌-◌, ◌≡◌, ◌<◌, ◌≤◌, ◌^◌, take}
use Rattle.std.specs.Str.Parse.{AllDigits, digits_value}
use Rattle.bal_base.proofs.number.overflows.Given as goal

-- the number is the value of the digits so far
abbrev pub invariant-loop-at : goal.invariant-loop-at
invariant-loop-at l = record {
  within : l.at ≤ length l.text;
  digits : AllDigits 10 (take l.at l.text);
  value : l.number ≡ digits_value 10 (take l.at l.text);
  fits : l.number < 2 ^ 64;
}

abbrev pub decreases-loop-at : goal.decreases-loop-at
decreases-loop-at l = length l.text - l.at
