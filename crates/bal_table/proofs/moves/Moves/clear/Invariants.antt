use Rattle.std.proofs.Common.{◌≡◌, ℕ, ◌+◌, ◌^◌, ◌<◌, ◌≤◌, true, false, get_or, length}
use Rattle.std.specs.Prelude.{vec_capacity}
use Rattle.bal_layout.specs.Regions.{is_in}
use Rattle.bal_table.proofs.moves.Moves.clear.Given as goal

-- a word is null unless its address is listed still
abbrev pub invariant-loop-address : goal.invariant-loop-address
invariant-loop-address l = record {
  null : (n : ℕ) → is_in n l.self-inside.moved.list ≡ false → get_or l.self-inside.table.items n 0 ≡ 0;
  written : (n : ℕ) → is_in n l.self-inside.moved.list ≡ true → n < length l.self-inside.table.items;
  words : l.self-inside.words ≡ length l.fn.self.words;
  within : length l.self-inside.table.items ≤ l.self-inside.words;
  capacity : l.self-inside.words ≤ vec_capacity l.self-inside.table;
  room : l.self-inside.words ≤ length l.self-inside.moved.list + l.self-inside.moved.spare;
  few : l.self-inside.words < 2 ^ 32;
}

abbrev pub decreases-loop-address : goal.decreases-loop-address
decreases-loop-address l = length l.self-inside.moved.list
