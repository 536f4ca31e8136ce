use Rattle.std.proofs.Common.{drop}
use Rattle.bal_settle.specs.Settling.{IsSettling}
use Rattle.bal_settle.proofs.settle_chosen.Given as goal

-- the regions from this one on are left
abbrev pub invariant-loop-region : goal.invariant-loop-region
invariant-loop-region l = IsSettling l.chosen l.marked l.initial.table l.initial.cards (drop l.region-index l.chosen) l.rest l.table l.cards
