-- Which numbers are a geometry, and what an object asks of the heap.
use Rattle.std.specs.Prelude.{ℕ, ◌+◌, ◌*◌, ◌^◌, ◌||◌, Option, Some, None, if◌then◌else◌, nat_lt, nat_le, not}
use Rattle.bal_layout.specs.Shape.{Shape, is_region_size, largest_of}
use Rattle.bal_layout.specs.declared.geometry.GeometryFault.{GeometryFault}
use Rattle.bal_layout.specs.declared.geometry.GeometryFault.TheVariants.{RegionsRange, WordsRange, WordsPower, TooLarge}
use Rattle.bal_layout.specs.declared.geometry.Want.{Want}

-- the first thing that is wrong with these numbers, where one is
abbrev pub fault_of : ℕ → ℕ → Option GeometryFault
fault_of regions words =
    if nat_lt regions 4 || nat_lt 2047 regions then Some RegionsRange
    else if nat_lt words 256 || nat_lt 65536 words then Some WordsRange
    else if not (is_region_size words) then Some WordsPower
    else if nat_lt (2 ^ 24) (regions * words) then Some TooLarge
    else None

-- a plain object has a header, a name, its references and its values
abbrev pub size_of_plain : ℕ → ℕ → ℕ
size_of_plain refs values = 2 + refs + values

-- what a plain object asks for, where it is not larger than the largest
abbrev pub want_of_plain : Shape → ℕ → ℕ → Option Want
want_of_plain s refs values =
    if nat_le (size_of_plain refs values) (largest_of s) then Some (record { words = size_of_plain refs values; leaves = 0 })
    else None
