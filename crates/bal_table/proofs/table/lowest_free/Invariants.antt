use Rattle.std.proofs.Common.{◌≡◌, ◌<◌, ◌≤◌, ◌-◌, ℕ, false, length}
use Rattle.bal_layout.specs.Regions.{is_free, region_at}
use Rattle.bal_table.proofs.table.lowest_free.Given as goal

-- no region so far is free
abbrev pub invariant-loop-region : goal.invariant-loop-region
invariant-loop-region l = (l.region ≤ length l.states) × ((q : ℕ) → q < l.region → is_free (region_at l.states q).role ≡ false)

abbrev pub decreases-loop-region : goal.decreases-loop-region
decreases-loop-region l = length l.states - l.region
