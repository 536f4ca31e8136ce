use Rattle.std.proofs.Common.{◌≡◌, ℕ, ◌<◌, ◌≤◌, ◌++◌, cond, drop, length, map}
use Rattle.std.specs.Prelude.{vec_capacity}
use Rattle.bal_base.specs.Numbering.{numbers_from}
use Rattle.bal_layout.specs.Regions.{free_regions, is_free, region_at}
use Rattle.bal_layout.specs.declared.region_state.RegionState.{RegionState}
use Rattle.bal_region.specs.Changes.{empty_land}
use Rattle.bal_table.specs.Taken.{kept_at}
use Rattle.bal_table.proofs.occupied.take_free.Given as goal

-- the free regions below this number were moved, and the others are as they were
abbrev pub invariant-loop-number : goal.invariant-loop-number
invariant-loop-number l = record {
  long : length l.regions ≡ length l.initial.regions;
  done : (q : ℕ) → q < l.number → kept_at l.regions q ≡ cond (is_free (region_at l.states q).role) (empty_land q 0) (kept_at l.initial.regions q);
  left : (q : ℕ) → l.number ≤ q → kept_at l.regions q ≡ kept_at l.initial.regions q;
  out : l.out.items ++ map (kept_at l.initial.regions) (numbers_from l.number (λ (r : RegionState). is_free r.role) (drop l.number l.states))
      ≡ map (kept_at l.initial.regions) (free_regions l.states);
  room : vec_capacity l.initial.out ≤ vec_capacity l.out;
}
