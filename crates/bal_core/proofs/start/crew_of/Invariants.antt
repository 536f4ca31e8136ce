use Rattle.std.proofs.Common.{◌≡◌, replicate}
use Rattle.bal_core.specs.World.{blank}
use Rattle.bal_core.proofs.start.crew_of.Given as goal

-- so many workers so far
abbrev pub invariant-loop : goal.invariant-loop
invariant-loop l = l.crew.items ≡ replicate l.counter blank
