use Rattle.std.proofs.Common.{◌≡◌, take}
use Rattle.bal_core.specs.World.{slots_in}
use Rattle.bal_core.proofs.start.slots_of.Given as goal

-- what the slots so far hold
abbrev pub invariant-loop-slot : goal.invariant-loop-slot
invariant-loop-slot g l = l.slots.items ≡ take l.slot (slots_in (g.F.FromGraph.graph l.graph).targets l.object)
