use Rattle.std.proofs.Common.{◌≡◌, map}
use Rattle.std.specs.List.{range_with_len}
use Rattle.bal_region.specs.Changes.{empty_land}
use Rattle.bal_table.proofs.table.empty_regions.Given as goal

-- so many regions so far, each with its number
abbrev pub invariant-loop-number : goal.invariant-loop-number
invariant-loop-number l = l.regions.items ≡ map (λ q. empty_land q l.geometry.words) (range_with_len 0 l.number)
