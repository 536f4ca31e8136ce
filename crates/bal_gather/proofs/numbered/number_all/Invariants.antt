use Rattle.std.proofs.Common.{◌≡◌, ◌*◌, length, map}
use Rattle.bal_gather.specs.Kept.{TellNumbers}
use Rattle.bal_gather.specs.Numbers.{starts_below}
use Rattle.bal_gather.proofs.numbered.number_all.Given as goal

-- the objects of the regions in front of this one are listed, and have their numbers
abbrev pub invariant-loop-region : goal.invariant-loop-region
invariant-loop-region l = record {
  addresses : l.addresses.items ≡ starts_below l.chosen (l.region * l.chosen.table.shape.words);
  long : length l.numbers.items ≡ l.region;
  numbers : TellNumbers l.chosen (map (λ v. v.items) l.numbers.items) l.region;
}
