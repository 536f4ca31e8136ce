use Rattle.std.proofs.Common.{◌≡◌, ◌+◌, ◌≤◌, ℕ, length, take}
use Rattle.std.specs.Prelude.{filter}
use Rattle.bal_copyfwd.specs.Moving.{is_marked_at}
use Rattle.bal_copyfwd.proofs.Told.{copy_below}
use Rattle.bal_evacuate.specs.Course.{decision_of}
use Rattle.bal_gather.specs.Numbers.{starts_of}
use Rattle.bal_table.specs.Moves.{moved}
use Rattle.bal_copyfwd.proofs.telling.tell_addresses.Given as goal

-- the objects so far were told
abbrev pub invariant-loop-object : goal.invariant-loop-object
invariant-loop-object l = record {
  moves : (a : ℕ) → moved l.moves a ≡ copy_below l.numbered (decision_of l.evacuated) l.object a;
  marked : l.marked.list ≡ filter (is_marked_at l.numbered (decision_of l.evacuated)) (take l.object (starts_of l.numbered));
  room : length (starts_of l.numbered) ≤ l.marked.spare + l.object;
  heap : length l.moves.words ≡ length l.initial.moves.words;
}
