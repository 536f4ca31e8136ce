use Rattle.std.proofs.Common.{◌≡◌, ◌≤◌, ◌-◌, ℕ, length, take}
use Rattle.std.specs.Prelude.{IsTrue}
use Rattle.bal_layout.specs.Addresses.{region_of}
use Rattle.bal_layout.specs.Regions.{is_in}
use Rattle.bal_settle.proofs.count_in.Given as goal

-- those so far lie in the region
abbrev pub invariant-loop-count : goal.invariant-loop-count
invariant-loop-count l = record {
  within : l.count ≤ length l.marked;
  front : (a : ℕ) → IsTrue (is_in a (take l.count l.marked)) → region_of l.geometry a ≡ l.region;
}

abbrev pub decreases-loop-count : goal.decreases-loop-count
decreases-loop-count l = length l.marked - l.count
