use Rattle.std.proofs.Common.{◌<◌}
use Rattle.bal_layout.specs.Addresses.{region_of}
use Rattle.bal_rebuild.specs.Crossings.{HasCrossingOf}
use Rattle.bal_rebuild.specs.Rebuilt.{AreDirtied}
use Rattle.bal_rebuild.proofs.dirty_crossings.Given as goal

-- the slots of the objects in the regions below this one were visited
abbrev pub invariant-loop-region : goal.invariant-loop-region
invariant-loop-region l = AreDirtied l.initial.cards l.cards (HasCrossingOf l.table l.into (λ holder number. region_of l.table.shape holder < l.region))
