-- The numbers of those in a list that pass a test.
use Rattle.std.specs.Prelude.{ℕ, ◌+◌, Bool, List, [], ◌∷◌, if◌then◌else◌}

-- from n on, ascending
abbrev pub numbers_from : {A : Type 0} → ℕ → (A → Bool) → List A → List ℕ
numbers_from n test [] = []
numbers_from n test (x ∷ xs) = if test x then n ∷ numbers_from (n + 1) test xs else numbers_from (n + 1) test xs
