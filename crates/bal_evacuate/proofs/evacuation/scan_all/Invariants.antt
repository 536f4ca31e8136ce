use Rattle.std.proofs.Common.{◌≡◌, ◌-◌, length, take}
use Rattle.bal_evacuate.specs.Order.{firsts, held_by, objects_of}
use Rattle.bal_evacuate.proofs.Walk.{IsClosing}
use Rattle.bal_evacuate.proofs.evacuation.scan_all.Given as goal

-- the decided objects before this place were scanned, in their order
abbrev pub invariant-loop-object : goal.invariant-loop-object
invariant-loop-object g l = record {
  walk : IsClosing (g.F.FromGraph.graph l.graph) l.limit l.fn.course l.course l.place;
  order : objects_of l.course.won ≡ firsts (objects_of l.fn.course.won) (held_by (g.F.FromGraph.graph l.graph) (take l.place l.course.won));
}

-- the objects of the graph that were not scanned
abbrev pub decreases-loop-object : goal.decreases-loop-object
decreases-loop-object g l = length (g.F.FromGraph.graph l.graph).ages - l.place
