use Rattle.std.proofs.Common.{◌≡◌, ◌+◌, ◌≤◌, map}
use Rattle.std.specs.List.{filter, range_with_len}
use Rattle.bal_choose.specs.Rows.{holds_objects, row_in}
use Rattle.bal_choose.proofs.rows.rows_in.Given as goal

-- the regions so far have their rows, and there is room for the others
abbrev pub invariant-loop-region : goal.invariant-loop-region
invariant-loop-region l =
    (l.rows.list ≡ map (row_in l.table.regions) (filter (holds_objects l.table.regions) (range_with_len 0 l.region)))
    × (l.regions ≤ l.rows.spare + l.region)
