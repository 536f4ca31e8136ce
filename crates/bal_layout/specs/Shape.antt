-- The heap's geometry, as contracts see it.
use Rattle.std.specs.Prelude.{ℕ, ◌≤◌, ◌*◌, ◌/◌, ◌^◌, ◌==◌, Bool, IsTrue, List, [], ◌∷◌}
use Rattle.std.specs.List.{list_any}

-- how many regions there are, and how many words each has
pub record Shape : Type 0 where
  pub regions : ℕ
  pub words : ℕ

-- a region has one of these numbers of words: the powers of two from 256 to 65,536
abbrev pub region_sizes : List ℕ
region_sizes = 256 ∷ 512 ∷ 1024 ∷ 2048 ∷ 4096 ∷ 8192 ∷ 16384 ∷ 32768 ∷ 65536 ∷ []

abbrev pub is_region_size : ℕ → Bool
is_region_size words = list_any (λ size. size == words) region_sizes

-- the limits of a geometry
pub record IsShape (s : Shape) : Type 0 where
  pub fewest_regions : 4 ≤ s.regions
  pub most_regions : s.regions ≤ 2047
  pub fewest_words : 256 ≤ s.words
  pub most_words : s.words ≤ 65536
  pub power_of_two : IsTrue (is_region_size s.words)
  pub words_in_all : s.regions * s.words ≤ 2 ^ 24

-- the words of the largest object that lies in one piece
abbrev pub largest_of : Shape → ℕ
largest_of s = s.words / 8
