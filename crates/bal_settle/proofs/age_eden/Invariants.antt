use Rattle.bal_settle.specs.Settling.{IsOlderTo}
use Rattle.bal_settle.proofs.age_eden.Given as goal

-- the regions below this one are older, if they were eden
abbrev pub invariant-loop-region : goal.invariant-loop-region
invariant-loop-region l = IsOlderTo l.initial.table l.table l.region
