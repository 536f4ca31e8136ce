-- The objects that evacuations are tried with.
use Rattle.std.specs.Prelude.{ℕ, List, [], ◌∷◌}
use Rattle.bal_layout.specs.Header.{first_word, second_word}
use Rattle.bal_layout.specs.declared.header.Header.{Header}
use Rattle.bal_layout.specs.declared.name.Kind.TheVariants.{Plain}

abbrev pub trial_header : Header
trial_header = record { kind = Plain; refs = 1; values = 1; name = record { thread = 0; ordinal = 1 } }

-- an object of four words, with one reference and one number
abbrev pub words_of_trial : List ℕ
words_of_trial = first_word trial_header ∷ second_word trial_header ∷ 0 ∷ 0 ∷ []
