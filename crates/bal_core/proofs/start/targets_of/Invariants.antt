use Rattle.std.proofs.Common.{◌≡◌, map, take}
use Rattle.bal_core.proofs.start.targets_of.Given as goal

-- what the slots of the objects so far hold
abbrev pub invariant-loop-object : goal.invariant-loop-object
invariant-loop-object g l = map (λ slots. slots.items) l.targets.items ≡ take l.object (g.F.FromGraph.graph l.graph).targets
