-- The regions after some were freed, one at a time.
use Rattle.std.proofs.Common.{◌≡◌, ℕ, ◌<◌, cond, List, get_or, length, arith}
use Rattle.std.proofs.lemmas.List.FromFn.{get_or-map-range_with_len, length-map-range_with_len}
use Rattle.bal_layout.specs.Regions.{free_region, freed, is_in, region_at, without_cards_of}
use Rattle.bal_layout.specs.Shape.{Shape}
use Rattle.bal_layout.specs.declared.region_state.RegionState.{RegionState}

-- one region after some were freed
abbrev pub freed_at : Shape → List ℕ → List RegionState → ℕ → RegionState
freed_at s qs regions q = cond (is_in q qs) free_region (record (region_at regions q) { remembered = without_cards_of s qs (region_at regions q).remembered })

pub length-freed : (s : Shape) (qs : List ℕ) (regions : List RegionState) → length (freed s qs regions) ≡ length regions
length-freed s qs regions = length-map-range_with_len (freed_at s qs regions) 0 (length regions)

pub freed-is : (s : Shape) (qs : List ℕ) (regions : List RegionState) (q : ℕ) (d : RegionState) → q < length regions → get_or (freed s qs regions) q d ≡ freed_at s qs regions q
freed-is s qs regions q d within = get_or-map-range_with_len (freed_at s qs regions) 0 (length regions) q q d within (omega arith)
