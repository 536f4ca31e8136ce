-- Lists that are filled with one item, and words that stand for more than were written: the rest are zeros.
use Rattle.std.specs.Prelude.{ℕ, ◌-◌, List, ◌++◌, length, replicate}

-- items, and one item after them again and again until they are so many
unfoldable pub grown : {T : Type 0} → ℕ → T → List T → List T
grown room item items = items ++ replicate (room - length items) item

-- words, and zeros after them until they are so many
abbrev pub padded : ℕ → List ℕ → List ℕ
padded room words = grown room 0 words
