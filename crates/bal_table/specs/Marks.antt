-- The marked objects, by the addresses at which they start: a set, and in it a queue.
use Rattle.std.specs.Prelude.{◌≡◌, ℕ, ◌+◌, ◌<◌, ◌≤◌, ◌^◌, false, IsTrue, not, List, [], ◌∷◌, ◌++◌, drop, filter, length, map, nat_eq, Option, Some, None, take, if◌then◌else◌}
use Rattle.std.specs.List.{IsDistinct}
use Rattle.bal_layout.specs.Regions.{is_in}
use Rattle.bal_table.specs.Moves.{Forwarding, moved_to}

-- the marked addresses of a heap of so many words, in the order in which they were marked. So many of the first were taken
-- out of the queue
pub record Marked : Type 0 where
  pub words : ℕ
  pub order : List ℕ
  pub taken : ℕ

-- those that still wait, first come first
abbrev pub queue : Marked → List ℕ
queue m = drop m.taken m.order

-- each is an address of the heap, and was marked once
pub record IsMarked (m : Marked) : Type 0 where
  pub apart : IsDistinct nat_eq m.order
  pub taken : m.taken ≤ length m.order
  pub within : (a : ℕ) → IsTrue (is_in a m.order) → a < m.words
  pub few : m.words < 2 ^ 32

-- Changes.

abbrev pub no_marks : ℕ → Marked
no_marks words = record { words = words; order = []; taken = 0 }

-- one more at the end, unless it is there
abbrev pub with_address : List ℕ → ℕ → List ℕ
with_address order a = if is_in a order then order else order ++ a ∷ []

abbrev pub with_mark : Marked → ℕ → Marked
with_mark m a = record m { order = with_address m.order a }

-- the first of the queue leaves it and stays marked, or none waits and nothing changes
abbrev pub IsNext : Marked → Option ℕ → Marked → Type 0
IsNext before None after = (queue before ≡ []) × (after ≡ before)
IsNext before (Some a) after = (queue before ≡ a ∷ queue after) × (after ≡ record before { taken = before.taken + 1 })

-- Objects that go or move.

-- an address is among these, and its object is not gone
abbrev pub IsLeft : List ℕ → List ℕ → ℕ → Type 0
IsLeft gone order a = IsTrue (is_in a order) × (is_in a gone ≡ false)

-- the addresses of the objects that are not gone, after they moved
abbrev pub remapped : List ℕ → Forwarding → List ℕ → List ℕ
remapped gone moves order = map (moved_to moves) (filter (λ a. not (is_in a gone)) order)

-- no two of them come to one address
abbrev pub StayApart : List ℕ → Forwarding → List ℕ → Type 0
StayApart gone moves order = (a b : ℕ) → IsLeft gone order a → IsLeft gone order b → moved_to moves a ≡ moved_to moves b → a ≡ b

-- so many of the first were taken as are left of those
abbrev pub with_remapped : List ℕ → Forwarding → Marked → Marked
with_remapped gone moves m = record {
  words = m.words;
  order = remapped gone moves m.order;
  taken = length (remapped gone moves (take m.taken m.order));
}
