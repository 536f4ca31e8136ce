use Rattle.std.proofs.Common.{◌≡◌}
use Rattle.bal_rebuild.proofs.Emptied.{with_some_empty}
use Rattle.bal_rebuild.proofs.empty_lists.Given as goal

-- the lists of the regions below this one are empty
abbrev pub invariant-loop-region : goal.invariant-loop-region
invariant-loop-region l = l.table ≡ with_some_empty l.initial.table l.region
