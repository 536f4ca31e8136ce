-- Heaps on which a sweep is tried.
use Rattle.std.specs.Prelude.{◌≡◌, ℕ, ◌+◌, Some}
use Rattle.bal_table.specs.Table.{Table, things_of}
use Rattle.bal_words.specs.Things.{Thing}

-- the higher an object starts, the lower is its ordinal: so no two have one name, and names are not in the order of addresses
abbrev pub IsTrial : Table → Type 0
IsTrial t = (a : ℕ) (x : Thing) → things_of t a ≡ Some x → x.name.ordinal + a ≡ 1024
