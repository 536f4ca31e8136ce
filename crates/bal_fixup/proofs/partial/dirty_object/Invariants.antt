use Rattle.std.proofs.Common.{◌≡◌, ◌<◌}
use Rattle.bal_fixup.specs.Dirtied.{BecameDirty, HasReference}
use Rattle.bal_fixup.proofs.partial.dirty_object.Given as goal

-- the slots so far were visited
abbrev pub invariant-loop-number : goal.invariant-loop-number
invariant-loop-number l = BecameDirty l.initial.cards l.cards (HasReference l.table (λ holder slot. (holder ≡ l.address) × (slot < l.number)))
