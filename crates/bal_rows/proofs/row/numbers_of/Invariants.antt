use Rattle.std.proofs.Common.{◌≡◌, ◌<◌, ◌^◌, length, map, take, drop}
use Rattle.std.specs.Prelude.{All}
use Rattle.std.specs.Fmt.{decimal}
use Rattle.csv.specs.Records.{fields_of}
use Rattle.bal_rows.proofs.row.numbers_of.Given as goal

-- so many fields are read
abbrev pub invariant-loop-i : goal.invariant-loop-i
invariant-loop-i l = record {
  room : length l.numbers ≡ 4;
  small : All (λ n. n < 2 ^ 64) l.numbers;
  read : take l.i (drop 1 (fields_of l.raw)) ≡ map decimal (take l.i l.numbers);
}
