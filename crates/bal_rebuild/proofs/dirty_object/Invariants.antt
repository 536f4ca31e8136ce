use Rattle.std.proofs.Common.{◌≡◌, ◌<◌}
use Rattle.bal_rebuild.specs.Crossings.{HasCrossingOf}
use Rattle.bal_rebuild.specs.Rebuilt.{AreDirtied}
use Rattle.bal_rebuild.proofs.dirty_object.Given as goal

-- the slots of the object below this one were visited
abbrev pub invariant-loop-number : goal.invariant-loop-number
invariant-loop-number l = AreDirtied l.initial.cards l.cards (HasCrossingOf l.table l.into (λ holder slot. (holder ≡ l.address) × (slot < l.number)))
