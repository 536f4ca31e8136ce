use Rattle.std.proofs.Common.{◌≤◌, ◌-◌}
use Rattle.bal_rebuild.specs.Crossings.{HasCrossingOf}
use Rattle.bal_rebuild.specs.Rebuilt.{AreDirtied}
use Rattle.bal_table.proofs.Lemmas.{Before}
use Rattle.bal_rebuild.proofs.dirty_region.Given as goal

-- the slots of the region's objects before this offset were visited
abbrev pub invariant-loop-offset : goal.invariant-loop-offset
invariant-loop-offset l = record {
  dirtied : AreDirtied l.initial.cards l.cards (HasCrossingOf l.table l.into (Before l.table l.region l.from));
  from : l.from ≤ l.table.shape.words;
}

abbrev pub decreases-loop-offset : goal.decreases-loop-offset
decreases-loop-offset l = l.table.shape.words - l.from
