-- Paths along the words of a heap, from the roots on: what a marker follows.
use Rattle.std.specs.Prelude.{ℕ, IsTrue, List, [], ◌∷◌, Option, Some, None}
use Rattle.bal_layout.specs.References.{word_of}
use Rattle.bal_layout.specs.Regions.{is_in}
use Rattle.bal_words.specs.Things.{Thing, Things}

-- the reference words of an object, if there is one
abbrev pub words_in : Option Thing → List ℕ
words_in None = []
words_in (Some x) = x.refs

-- a path by the addresses on it, told from its end back to an object that a root holds
abbrev pub IsPath : Things → List ℕ → List ℕ → Type 0
IsPath things roots [] = ⊥
IsPath things roots (a ∷ []) = IsTrue (is_in (word_of a) roots)
IsPath things roots (b ∷ a ∷ before) = IsTrue (is_in (word_of b) (words_in (things a))) × IsPath things roots (a ∷ before)

-- a path ends at the address
abbrev pub EndsPath : Things → List ℕ → ℕ → Type 0
EndsPath things roots a = (before : List ℕ) × IsPath things roots (a ∷ before)
