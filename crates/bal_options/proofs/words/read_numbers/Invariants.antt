use Rattle.std.proofs.Common.{length, map}
use Rattle.std.specs.Prelude.{string_bytes}
use Rattle.bal_options.specs.Numbers.{number_in}
use Rattle.bal_options.proofs.ReadFacts.{IsReadSoFar}
use Rattle.bal_options.proofs.words.read_numbers.Given as goal

-- the options so far are read
abbrev pub invariant-loop-left : goal.invariant-loop-left
invariant-loop-left l = IsReadSoFar (map string_bytes l.words) (map string_bytes l.left) (number_in l.numbers)

abbrev pub decreases-loop-left : goal.decreases-loop-left
decreases-loop-left l = length l.left
