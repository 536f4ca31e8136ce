use Rattle.std.proofs.Common.{◌≡◌, take}
use Rattle.bal_evacuate.specs.Order.{firsts, objects_of}
use Rattle.bal_evacuate.proofs.Walk.{IsRooting}
use Rattle.bal_evacuate.proofs.evacuation.decide_roots.Given as goal

-- what the roots so far hold is decided, in their order
abbrev pub invariant-loop-root : goal.invariant-loop-root
invariant-loop-root g l = record {
  walk : IsRooting (g.F.FromGraph.graph l.graph) l.limit l.roots l.fn.course l.course l.root-index;
  order : objects_of l.course.won ≡ firsts (objects_of l.fn.course.won) (take l.root-index l.roots);
}
