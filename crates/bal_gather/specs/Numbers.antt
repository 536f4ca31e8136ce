-- The objects of the chosen regions, numbered from 0 in the order of their addresses.
use Rattle.std.specs.Prelude.{ℕ, ◌*◌, ◌&&◌, Bool, List, filter, is_some, length, Option, None, Some, if◌then◌else◌}
use Rattle.bal_plan.specs.Plan as heap
use Rattle.bal_table.specs.Table.{things_of}
use Rattle.bal_gather.specs.Lent.{Lent, is_chosen}

-- an object of a chosen region starts there
abbrev pub is_start : Lent → ℕ → Bool
is_start l a = is_chosen l a && is_some (things_of l.table a)

-- the addresses below one at which such objects start, and all of them, ascending
abbrev pub starts_below : Lent → ℕ → List ℕ
starts_below l end = filter (is_chosen l) (heap.starts_below l.table end)

abbrev pub starts_of : Lent → List ℕ
starts_of l = starts_below l (l.table.shape.regions * l.table.shape.words)

-- the number of such an object: so many others start before it
abbrev pub number_of : Lent → ℕ → Option ℕ
number_of l a = if is_start l a then Some (length (starts_below l a)) else None
