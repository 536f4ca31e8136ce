-- What holds between two steps of mending: some references are mended, each once, and the others are as they were.
use Rattle.std.specs.Prelude.{◌≡◌, ℕ, ◌==◌, ◌&&◌, ◌++◌, Bool, List, drop, if◌then◌else◌, map, nat_lt, slice_index, slice_set, take}
use Rattle.bal_fixup.specs.Mended.{mended_thing}
use Rattle.bal_layout.specs.Addresses.{offset_of, region_of}
use Rattle.bal_layout.specs.Shape.{Shape}
use Rattle.bal_words.specs.Moved.{word_to}
use Rattle.bal_words.specs.Things.{Things}

-- Words of a list.

-- one of them is mended
abbrev pub word_mended : (ℕ → ℕ) → ℕ → List ℕ → List ℕ
word_mended to i words = slice_set words i (word_to to (slice_index words i))

-- so many of the first are mended
abbrev pub front_mended : (ℕ → ℕ) → ℕ → List ℕ → List ℕ
front_mended to k words = map (word_to to) (take k words) ++ drop k words

-- Objects of a heap.

-- those at these addresses are mended
pub record MendedWhere (before after : Things) (done : ℕ → Bool) (to : ℕ → ℕ) : Type 0 where
  pub each : (a : ℕ) → after a ≡ (if done a then mended_thing to (before a) else before a)

-- an address in a region
abbrev pub lies_in : Shape → ℕ → ℕ → Bool
lies_in s q a = region_of s a == q

-- and there before an offset
abbrev pub lies_before : Shape → ℕ → ℕ → ℕ → Bool
lies_before s q at a = lies_in s q a && nat_lt (offset_of s a) at

-- an address in the regions below one
abbrev pub lies_below : Shape → ℕ → ℕ → Bool
lies_below s q a = nat_lt (region_of s a) q
