-- Where moved objects went: a forwarding table beside the heap.
use Rattle.std.specs.Prelude.{◌≡◌, ℕ, ◌<◌, ◌^◌, List, Option, Some, length, replicate, slice_index_or, slice_set, unwrap_or}
use Rattle.bal_layout.specs.References.{target_of, word_of}

-- for each address of the heap a reference to where the object went that started there, or null if it did not move
pub record Forwarding : Type 0 where
  pub words : List ℕ

-- where the object went that started at an address, if it moved
abbrev pub moved : Forwarding → ℕ → Option ℕ
moved m a = target_of (slice_index_or m.words a 0)

-- and where it is then, if it moved or not
abbrev pub moved_to : Forwarding → ℕ → ℕ
moved_to m a = unwrap_or (moved m a) a

-- each object went to an address of the heap
pub record IsForwarding (m : Forwarding) : Type 0 where
  pub within : (a to : ℕ) → moved m a ≡ Some to → to < length m.words
  pub few : length m.words < 2 ^ 32

-- Changes.

abbrev pub no_moves : ℕ → Forwarding
no_moves words = record { words = replicate words 0 }

abbrev pub with_move : Forwarding → ℕ → ℕ → Forwarding
with_move m a to = record { words = slice_set m.words a (word_of to) }
