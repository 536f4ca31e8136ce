use Rattle.std.proofs.Common.{◌≡◌, ◌+◌, ◌≤◌}
use Rattle.std.specs.List.{filter, range_with_len}
use Rattle.bal_base.specs.Bits.{is_member}
use Rattle.bal_partial.proofs.telling.list_members.Given as goal

-- the members below the number are listed
abbrev pub invariant-loop-number : goal.invariant-loop-number
invariant-loop-number l = record {
  listed : l.into.list ≡ filter (is_member l.members.members) (range_with_len 0 l.number);
  room : l.limit ≤ l.into.spare + l.number;
}
