use Rattle.std.proofs.Common.{◌≡◌, take}
use Rattle.bal_core.proofs.start.ages_of.Given as goal

-- the ages so far
abbrev pub invariant-loop-object : goal.invariant-loop-object
invariant-loop-object g l = l.ages.items ≡ take l.object (g.F.FromGraph.graph l.graph).ages
