use Rattle.std.proofs.Common.{◌≡◌, length, map, take}
use Rattle.bal_core.proofs.start.sizes_of.Given as goal

-- the sizes so far
abbrev pub invariant-loop-object : goal.invariant-loop-object
invariant-loop-object g l = l.sizes.items ≡ map length (take l.object (g.F.FromGraph.graph l.graph).words)
