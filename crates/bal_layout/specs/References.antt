-- How a reference is written as a word: null is zero, and another is one more than the address to which it leads, so that
-- address 0 can be referred to and fresh words are null.
use Rattle.std.specs.Prelude.{ℕ, zero, suc, Option, Some, None}

-- the word of a reference, of null where there is none
abbrev pub word_for : Option ℕ → ℕ
word_for None = zero
word_for (Some address) = suc address

-- the word that leads to an address
abbrev pub word_of : ℕ → ℕ
word_of address = word_for (Some address)

-- the address to which a word leads, None of null
abbrev pub target_of : ℕ → Option ℕ
target_of zero = None
target_of (suc address) = Some address
