-- Where each object goes when a heap is packed: in address order, each behind the one before, or at the beginning of the next
-- region if it does not fit there.
use Rattle.std.specs.Prelude.{◌≡◌, ℕ, ◌+◌, ◌*◌, ◌<◌, ◌≤◌, ◌==◌, IsSome, List, Option, Some, None, filter, is_some, length, map}
use Rattle.std.specs.List.{range_with_len, sum_by}
use Rattle.bal_layout.specs.Addresses.{offset_of, region_of}
use Rattle.bal_layout.specs.Header.{size_of_parts}
use Rattle.bal_layout.specs.Shape.{largest_of}
use Rattle.bal_layout.specs.declared.name.Name.{Name}
use Rattle.bal_model.specs.declared.event.Packed.{Packed}
use Rattle.bal_rules.specs.GlobalEvents.{next_fit}
use Rattle.bal_table.specs.Table.{Table, things_of}
use Rattle.bal_words.specs.Things.{Thing}

-- The objects of a table.

abbrev pub IsObject : Table → ℕ → Type 0
IsObject t a = IsSome (things_of t a)

-- how many words an object takes, in a region of so many words
abbrev pub words_of_thing : ℕ → Option Thing → ℕ
words_of_thing room None = 0
words_of_thing room (Some x) = size_of_parts room x.kind (length x.refs) (length x.values)

abbrev pub words_at : Table → ℕ → ℕ
words_at t a = words_of_thing t.shape.words (things_of t a)

-- the addresses below one at which objects start, and all of them, ascending
abbrev pub starts_below : Table → ℕ → List ℕ
starts_below t at = filter (λ a. is_some (things_of t a)) (range_with_len 0 at)

abbrev pub starts_of : Table → List ℕ
starts_of t = starts_below t (t.shape.regions * t.shape.words)

-- Where they go.

-- the objects below an address that go to a region, and the words that they take there
abbrev pub objects_into : Table → (ℕ → ℕ) → ℕ → ℕ → List ℕ
objects_into t to at q = filter (λ a. region_of t.shape (to a) == q) (starts_below t at)

abbrev pub words_into : Table → (ℕ → ℕ) → ℕ → ℕ → ℕ
words_into t to at q = sum_by (words_at t) (objects_into t to at q)

-- the objects keep their order, and none of them is in the way of another. Each region is packed from its first word on without
-- a gap, and none is passed over
pub record IsPlan (t : Table) (to : ℕ → ℕ) : Type 0 where
  -- none goes up
  pub down : (a : ℕ) → IsObject t a → to a ≤ a
  -- and each ends before the next begins
  pub apart : (a b : ℕ) → IsObject t a → IsObject t b → a < b → to a + words_at t a ≤ to b
  -- each lies in one region
  pub within : (a : ℕ) → IsObject t a → offset_of t.shape (to a) + words_at t a ≤ t.shape.words
  -- behind those before it that go there
  pub packed : (a : ℕ) → IsObject t a → offset_of t.shape (to a) ≡ words_into t to a (region_of t.shape (to a))
  -- an object before it goes to each lower region
  pub begun : (a q : ℕ) → IsObject t a → q < region_of t.shape (to a) → (b : ℕ) × IsObject t b × (b < a) × (region_of t.shape (to b) ≡ q)
  -- which is nearly full: what is left of it has fewer words than the largest object
  pub full : (a q : ℕ) → IsObject t a → q < region_of t.shape (to a) → t.shape.words < words_into t to (t.shape.regions * t.shape.words) q + largest_of t.shape
  -- and it goes to the next region exactly if it does not fit
  pub next_fit : map (λ a. region_of t.shape (to a)) (starts_of t)
      ≡ next_fit t.shape.words (range_with_len 0 t.shape.regions) 0 (map (words_at t) (starts_of t))

-- What a collection tells of it.

abbrev pub name_of : Option Thing → Name
name_of None = record { thread = 0; ordinal = 0 }
name_of (Some x) = x.name

-- an object by its name, and the region that it goes to
abbrev pub packed_as : Table → (ℕ → ℕ) → ℕ → Packed
packed_as t to a = record { name = name_of (things_of t a); region = region_of t.shape (to a) }

-- all objects so, in the order of their addresses
abbrev pub told_by_plan : Table → (ℕ → ℕ) → List Packed
told_by_plan t to = map (packed_as t to) (starts_of t)
