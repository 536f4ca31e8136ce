-- Texts that are appended piece by piece.
use Rattle.std.specs.Prelude.{◌≡◌, ℕ, List, ◌++◌, Bool, false}

-- whatever was told up to the old state, up to the new one it is told with these bytes after it
abbrev pub Writes : {T : Type 0} → (T → T → List ℕ → Type 0) → T → T → List ℕ → Type 0
Writes {T} tells old new bytes = (from : T) (text : List ℕ) → tells from old text → tells from new (text ++ bytes)

-- a text in memory, and whether memory was refused for a piece of it
pub record Grown : Type 0 where
  pub text : List ℕ
  pub refused : Bool

-- it is longer by these bytes, unless memory was refused
abbrev pub grows_by : Grown → Grown → List ℕ → Type 0
grows_by from now bytes = now.refused ≡ false → now.text ≡ from.text ++ bytes
