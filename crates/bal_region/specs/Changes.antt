-- What a region is after each change.
use Rattle.std.specs.Prelude.{ℕ, ◌+◌, ◌-◌, ◌<◌, ◌≤◌, ◌==◌, IsTrue, List, [], ◌∷◌, ◌++◌, length, take, drop, map, replicate, slice_set, not, if◌then◌else◌}
use Rattle.std.specs.List.{filter}
use Rattle.bal_region.specs.Land.{Land, object_in, size_at, starts_at}

-- no object, and zero words
abbrev pub empty_land : ℕ → ℕ → Land
empty_land number words = record { number = number; words = replicate words 0; starts = []; used = 0 }

-- other words, from an offset on
abbrev pub overwrite : List ℕ → ℕ → List ℕ → List ℕ
overwrite words at others = take at words ++ (others ++ drop (at + length others) words)

-- an object is placed after what was given out
abbrev pub with_object : Land → List ℕ → Land
with_object l object = record l {
  words = overwrite l.words l.used object;
  starts = l.starts ++ l.used ∷ [];
  used = l.used + length object;
}

-- the words of a new object: its header and name, and zeros
abbrev pub blank_words : ℕ → ℕ → ℕ → List ℕ
blank_words first second words = first ∷ second ∷ replicate (words - 2) 0

-- one word is another
abbrev pub with_word : Land → ℕ → ℕ → Land
with_word l offset word = record l { words = slice_set l.words offset word }

-- no object starts there any more; its words stay given out
abbrev pub without : Land → ℕ → Land
without l at = record l { starts = filter (λ s. not (s == at)) l.starts }

-- it has another number
abbrev pub with_number : Land → ℕ → Land
with_number l number = record l { number = number }

-- an object may be moved down, or stay: no other has a word from its new place up to its end
pub record MaySlide (l : Land) (from to : ℕ) : Type 0 where
  pub start : IsTrue (starts_at l from)
  pub down : to ≤ from
  pub clear : (s : ℕ) → IsTrue (starts_at l s) → s < from → s + size_at l.words s ≤ to

-- where an object starts, once the one that started at an offset starts at another
abbrev pub start_moved : ℕ → ℕ → ℕ → ℕ
start_moved from to s = if s == from then to else s

-- an object is moved in its region
abbrev pub with_slid : Land → ℕ → ℕ → Land
with_slid l from to = record l {
  words = overwrite l.words to (object_in l.words from);
  starts = map (start_moved from to) l.starts;
}

-- where the last of the objects ends that have these starts, or an offset where there is none
abbrev pub end_of : List ℕ → ℕ → List ℕ → ℕ
end_of words none [] = none
end_of words none (s ∷ ss) = end_of words (s + size_at words s) ss

-- the words after the last object are given out no more, or all of them where there is no object
abbrev pub cut_short : Land → Land
cut_short l = record l { used = end_of l.words 0 l.starts }
