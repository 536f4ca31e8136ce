-- Where a word lies: the regions' words are numbered one region after the other.
use Rattle.std.specs.Prelude.{ℕ, ◌+◌, ◌*◌, ◌/◌, ◌%◌, ◌<◌}
use Rattle.bal_layout.specs.Shape.{Shape}

-- the address of a word by its region and its offset there
abbrev pub address_in : Shape → ℕ → ℕ → ℕ
address_in s region offset = region * s.words + offset

abbrev pub region_of : Shape → ℕ → ℕ
region_of s address = address / s.words

abbrev pub offset_of : Shape → ℕ → ℕ
offset_of s address = address % s.words

-- the heap has a word at this address
abbrev pub IsAddress : Shape → ℕ → Type 0
IsAddress s address = address < s.regions * s.words

-- a card is 64 words
abbrev pub card_of : ℕ → ℕ
card_of address = address / 64

abbrev pub cards_of : Shape → ℕ
cards_of s = s.regions * s.words / 64
