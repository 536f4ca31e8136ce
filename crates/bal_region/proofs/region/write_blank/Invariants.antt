use Rattle.std.proofs.Common.{◌≡◌, ◌+◌, ◌-◌, ◌≤◌, ◌∷◌, replicate}
use Rattle.bal_region.specs.Changes.{overwrite}
use Rattle.bal_base.specs.Filling.{padded}
use Rattle.bal_region.proofs.region.write_blank.Given as goal

-- the header, the name and the zeros so far
abbrev pub invariant-loop-i : goal.invariant-loop-i
invariant-loop-i l = (l.words.items ≡ overwrite (padded (l.at + l.size) l.fn.words.items) l.at (l.first ∷ l.second ∷ replicate (l.i - (l.at + 2)) 0))
    × (l.i ≤ l.at + l.size)
