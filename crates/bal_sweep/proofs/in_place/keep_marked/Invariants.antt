use Rattle.std.proofs.Common.{◌+◌, ◌-◌, ◌<◌}
use Rattle.bal_sweep.specs.InPlace.{IsKeeping}
use Rattle.bal_sweep.proofs.in_place.keep_marked.Given as goal

-- the objects in front of the offset were swept
abbrev pub invariant-loop-offset : goal.invariant-loop-offset
invariant-loop-offset l = record {
  keeping : IsKeeping l.marked l.initial.table l.table l.region l.next l.live l.met;
  within : l.next < l.initial.table.shape.words + 1;
}

-- the offset goes up
abbrev pub decreases-loop-offset : goal.decreases-loop-offset
decreases-loop-offset l = l.initial.table.shape.words - l.next
