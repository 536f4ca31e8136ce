use Rattle.std.proofs.Common.{◌≡◌, take}
use Rattle.bal_core.specs.Steps.{used}
use Rattle.bal_core.proofs.state.Race.used.Given as goal

-- the words of those so far
abbrev pub invariant-loop-told : goal.invariant-loop-told
invariant-loop-told l = l.used ≡ used l.self.world l.region (take l.told-index l.won)
