-- What calls move from a source and to a sink, where those tell their bytes.
use Rattle.std.specs.Prelude.{◌≡◌, ℕ, ◌+◌, ◌-◌, ◌^◌, ◌≤◌, min, List, length, take, Option, Result, MatchResult}
use Rattle.std.specs.Io.KnownBytes.{Consumes, Appends, IsAtEnd}

-- the number of bytes given grows by what a read gave, up to its end, and stays where the read failed
abbrev pub CountsGiven : {E : Type 0} → ℕ → ℕ → Result ℕ E → Type 0
CountsGiven before now result = MatchResult result (λ n. now ≡ min (before + n) (2 ^ 64 - 1)) (λ _. now ≡ before)

-- these bytes were taken, and they are all that was left
pub record TakesAll (old new : Option (List ℕ)) (bytes : List ℕ) : Type 0 where
  pub taken : Consumes old new bytes
  pub at_end : IsAtEnd new

-- some bytes were taken from the front, and as many were counted
pub record TakesFront (old new : Option (List ℕ)) (before now : ℕ) : Type 0 where
  pub front : List ℕ
  pub taken : Consumes old new front
  pub counted : now ≡ before + length front

-- so many of the first bytes were appended
pub record AppendsFront (old new : Option (List ℕ)) (bytes : List ℕ) : Type 0 where
  pub count : ℕ
  pub within : count ≤ length bytes
  pub front : Appends old new (take count bytes)
