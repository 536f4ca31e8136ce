use Rattle.std.proofs.Common.{◌≡◌, ℕ, ◌≤◌, take}
use Rattle.bal_base.specs.Bits.{is_member}
use Rattle.bal_layout.specs.Regions.{is_in}
use Rattle.bal_table.proofs.remap.replace_all.Given as goal

-- the numbers so far are the members
abbrev pub invariant-loop-number : goal.invariant-loop-number
invariant-loop-number l = record {
  members : (n : ℕ) → is_member l.bits.members n ≡ is_in n (take l.number-index l.numbers);
  room : l.fn.bits.room ≤ l.bits.room;
}
