-- The objects that evacuations are tried with.
use Rattle.std.specs.Prelude.{ℕ, ◌-◌, ◌≤◌, List, ◌∷◌, [], map, replicate, Option, Some, None, nat_lt, if◌then◌else◌}
use Rattle.bal_layout.specs.Header.{first_word, second_word}
use Rattle.bal_layout.specs.declared.header.Header.{Header}
use Rattle.bal_layout.specs.declared.name.Kind.TheVariants.{Plain}
use Rattle.bal_layout.specs.Shape.{Shape}
use Rattle.bal_core.specs.Start.{IsObject}
use Rattle.bal_core.specs.World.{Graph}

-- an object of so many words, with two references
abbrev pub header_of_size : ℕ → Header
header_of_size size = record { kind = Plain; refs = 2; values = size - 4; name = record { thread = 0; ordinal = 1 } }

abbrev pub words_of_size : ℕ → List ℕ
words_of_size size = first_word (header_of_size size) ∷ second_word (header_of_size size) ∷ replicate (size - 2) 0

-- a slot holds an object of the trial, or none
abbrev pub below : ℕ → Option ℕ → Option ℕ
below count None = None
below count (Some k) = if nat_lt k count then Some k else None

-- so many objects of one age. The first one has these words, and each other one those
abbrev pub slots_of_trial : ℕ → List (Option ℕ × Option ℕ) → List (List (Option ℕ))
slots_of_trial count slots = map (λ (pair : Option ℕ × Option ℕ). below count pair.0 ∷ below count pair.1 ∷ []) slots

abbrev pub graph_of_trial : ℕ → ℕ → List ℕ → List ℕ → List (Option ℕ × Option ℕ) → Graph
graph_of_trial count age first other slots = record {
  ages = replicate count age;
  words = first ∷ replicate (count - 1) other;
  targets = slots_of_trial count slots;
}

-- a heap of four small regions
abbrev pub small : Shape
small = record { regions = 4; words = 256 }

pub record IsTrial (count : ℕ) (one others : List ℕ) (oldest : ℕ) : Type 0 where
  pub some : 1 ≤ count
  pub first : IsObject small one
  pub other : IsObject small others
  pub age : oldest ≤ 24
