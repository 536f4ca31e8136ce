use Rattle.std.proofs.Common.{◌≡◌, ◌+◌, ◌-◌, ◌++◌, take}
use Rattle.std.specs.Prelude.{vec_len, vec_capacity}
use Rattle.bal_base.proofs.items.Items.extend_from_slice.Given as goal

-- so many of the new items stand after the old ones, and have taken their room
abbrev pub invariant-loop-item : goal.invariant-loop-item
invariant-loop-item g l = record {
  appended : l.self-inside.items.items ≡ l.fn.self.list ++ take l.item-index l.more;
  room : (vec_capacity l.self-inside.items - vec_len l.self-inside.items) + l.item-index ≡ l.fn.self.spare;
}
