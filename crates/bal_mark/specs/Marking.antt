-- What is marked with the words of some references: the objects to which they lead, in the order of these words.
use Rattle.std.specs.Prelude.{◌≡◌, ℕ, ◌*◌, ◌/◌, ◌<◌, ◌⊎◌, IsSome, IsTrue, List, length, Option, Some, None}
use Rattle.std.specs.List.{fold}
use Rattle.bal_layout.specs.References.{target_of}
use Rattle.bal_layout.specs.Regions.{is_in}
use Rattle.bal_table.specs.Marks.{IsMarked, Marked, with_mark}
use Rattle.bal_table.specs.Table.{IsTable, Table, things_of}

-- this address is marked too, if there is one
abbrev pub with_target : Marked → Option ℕ → Marked
with_target m None = m
with_target m (Some a) = with_mark m a

-- what a word leads to is marked too
abbrev pub with_led : Marked → ℕ → Marked
with_led m word = with_target m (target_of word)

-- and what each of these words leads to
abbrev pub with_all_led : Marked → List ℕ → Marked
with_all_led m words = fold with_led m words

-- an address may be marked: it is marked already, or there is room for one more
pub record MayBeMarked (m : Marked) (a : ℕ) : Type 0 where
  pub within : a < m.words
  pub room : IsTrue (is_in a m.order) ⊎ (length m.order < m.words / 2)

-- the marks are those of a table: just objects are marked
pub record AreMarksOf (t : Table) (m : Marked) : Type 0 where
  pub table : IsTable t
  pub marked : IsMarked m
  pub words : m.words ≡ t.shape.regions * t.shape.words
  pub starts : (a : ℕ) → IsTrue (is_in a m.order) → IsSome (things_of t a)
