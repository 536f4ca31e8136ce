use Rattle.std.proofs.Common.{◌≡◌, ℕ, ◌≤◌, not, take}
use Rattle.std.specs.Prelude.{◌&&◌}
use Rattle.bal_base.specs.Bits.{is_member}
use Rattle.bal_layout.specs.Regions.{is_in}
use Rattle.bal_table.proofs.remap.remove_all.Given as goal

-- the numbers so far are no members any more
abbrev pub invariant-loop-number : goal.invariant-loop-number
invariant-loop-number l = record {
  members : (n : ℕ) → is_member l.bits.members n ≡ (is_member l.fn.bits.members n && not (is_in n (take l.number-index l.numbers)));
  room : l.fn.bits.room ≤ l.bits.room;
}
