use Rattle.std.proofs.Common.{◌≡◌, map, take}
use Rattle.bal_core.specs.Start.{name_of}
use Rattle.bal_core.proofs.start.names_of.Given as goal

-- the names so far
abbrev pub invariant-loop-object : goal.invariant-loop-object
invariant-loop-object g l = l.names.items ≡ map name_of (take l.object (g.F.FromGraph.graph l.graph).words)
