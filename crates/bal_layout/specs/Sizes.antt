-- What arrays take of the heap: words in one region, and whole regions beside it, as leaves.
use Rattle.std.specs.Prelude.{ℕ, ◌+◌, ◌-◌, ◌*◌, ◌/◌, ◌^◌, ◌&&◌, Option, Some, None, nat_le, nat_lt, if◌then◌else◌}
use Rattle.bal_layout.specs.declared.geometry.Want.{Want}
use Rattle.bal_layout.specs.Shape.{Shape, largest_of}

-- how many leaves the slots of an array fill, where a region has so many words
abbrev pub leaves_in : ℕ → ℕ → ℕ
leaves_in words len = (len + words - 1) / words

abbrev pub leaves_for : Shape → ℕ → ℕ
leaves_for s len = leaves_in s.words len

-- an array lies in one piece, or as a spine with one word for each leaf
abbrev pub size_of_array : Shape → ℕ → Want
size_of_array s len =
    if nat_le (2 + len) (largest_of s) then record { words = 2 + len; leaves = 0 }
    else record { words = 2 + leaves_for s len; leaves = leaves_for s len }

-- what an array asks for, where its slots can be numbered and neither it nor its spine is larger than the largest object
abbrev pub want_of_array : Shape → ℕ → Option Want
want_of_array s len =
    if nat_lt len (2 ^ 24) && nat_le (size_of_array s len).words (largest_of s) then Some (size_of_array s len)
    else None

-- the words of what an object takes, those of its leaves included
abbrev pub charge_of : Shape → Want → ℕ
charge_of s w = w.words + s.words * w.leaves
