use Rattle.std.proofs.Common.{◌≡◌, length, take}
use Rattle.std.specs.List.{filter}
use Rattle.bal_base.specs.Bits.{is_member}
use Rattle.bal_table.proofs.remap.count_members.Given as goal

-- so many of the numbers so far are members
abbrev pub invariant-loop-number : goal.invariant-loop-number
invariant-loop-number l = l.count ≡ length (filter (is_member l.bits.members) (take l.number-index l.numbers))
