use Rattle.std.proofs.Common.{◌≡◌, take}
use Rattle.bal_core.specs.World.{slots_in}
use Rattle.bal_evacuate.specs.Order.{firsts, held, objects_of}
use Rattle.bal_evacuate.proofs.Walk.{IsScanning}
use Rattle.bal_evacuate.proofs.evacuation.scan.Given as goal

-- what the slots so far hold is decided, in their order
abbrev pub invariant-loop-slot : goal.invariant-loop-slot
invariant-loop-slot g l = record {
  walk : IsScanning (g.F.FromGraph.graph l.graph) l.limit l.fn.course l.course l.object l.slot;
  order : objects_of l.course.won
      ≡ firsts (objects_of l.fn.course.won) (held (take l.slot (slots_in (g.F.FromGraph.graph l.graph).targets l.object)));
}
