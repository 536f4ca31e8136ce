-- One region of the heap: its words, and where objects start in them.
use Rattle.std.specs.Prelude.{ℕ, ◌+◌, ◌≤◌, ◌≡◌, ◌==◌, ◌&&◌, Bool, List, [], ◌∷◌, length, take, drop, slice_index, Option, Some, None, IsSome, IsTrue, nat_le, nat_lt, if◌then◌else◌}
use Rattle.std.specs.List.{find, list_any}
use Rattle.bal_layout.specs.declared.header.Header.{Header}
use Rattle.bal_layout.specs.Header.{header_of, size_in}
use Rattle.bal_words.specs.Pieces.{header_in}

-- which region it is, its words, the offsets at which its objects start, ascending, and how many words were given out
pub record Land : Type 0 where
  pub number : ℕ
  pub words : List ℕ
  pub starts : List ℕ
  pub used : ℕ

-- the header of an object that starts at an offset
abbrev pub header_at : List ℕ → ℕ → Option Header
header_at words at = header_of (slice_index words at) (slice_index words (at + 1))

-- how many words an object takes, in a region of so many words, where it has this header
abbrev pub size_by : ℕ → Option Header → ℕ
size_by room None = 0
size_by room (Some h) = size_in room h

-- how many words an object takes that starts at an offset
unfoldable pub size_at : List ℕ → ℕ → ℕ
size_at words at = size_by (length words) (header_at words at)

-- objects with these starts, each with its header, stand one after the other between two offsets; there may be gaps
abbrev pub Laid : List ℕ → ℕ → List ℕ → ℕ → Type 0
Laid words from [] end = from ≤ end
Laid words from (s ∷ ss) end = (from ≤ s) × IsSome (header_at words s) × Laid words (s + size_at words s) ss end

-- the objects lie in order among the words that were given out, and these are words of the region
pub record IsLand (l : Land) : Type 0 where
  pub laid : Laid l.words 0 l.starts l.used
  pub within : l.used ≤ length l.words

-- an object starts there
abbrev pub starts_at : Land → ℕ → Bool
starts_at l at = list_any (λ s. s == at) l.starts

-- so many words from an offset on as an object takes that starts there
abbrev pub object_in : List ℕ → ℕ → List ℕ
object_in words at = take (size_at words at) (drop at words)

-- the words of the object that starts at an offset, where one does
abbrev pub object_at : Land → ℕ → Option (List ℕ)
object_at l at = if starts_at l at then Some (object_in l.words at) else None

-- these words are one object, in a region of so many words: in front is a header of that size
pub record IsObject (room : ℕ) (words : List ℕ) : Type 0 where
  pub header : IsSome (header_in words)
  pub size : size_by room (header_in words) ≡ length words

-- the object that starts here has a word there
abbrev pub covers : Land → ℕ → ℕ → Bool
covers l start offset = nat_le start offset && nat_lt offset (start + size_at l.words start)

-- where the object starts that has a word at this offset
abbrev pub holder_of : Land → ℕ → Option ℕ
holder_of l offset = find (λ s. covers l s offset) l.starts

-- the least start from an offset on
abbrev pub first_from : Land → ℕ → Option ℕ
first_from l offset = find (λ s. nat_le offset s) l.starts

-- no object has its header or its name there
abbrev pub IsBehindHeaders : Land → ℕ → Type 0
IsBehindHeaders l offset = (s : ℕ) → IsTrue (starts_at l s) → (offset ≡ s → ⊥) × (offset ≡ s + 1 → ⊥)
