-- Counts that only rise. An answer that tells of a fault is tied to one, so code can't give up by itself.
use Rattle.std.specs.Prelude.{◌≡◌, ℕ, ◌+◌, ◌-◌, ◌^◌, ◌≤◌, min, max, Result, OnErr, MatchResult}

-- a count after one more, which stays at its end once it is there
abbrev pub raised : ℕ → ℕ
raised count = max count (min (count + 1) (2 ^ 64 - 1))

-- a count rose; one that stood at its end counts as risen
abbrev pub Rose : ℕ → ℕ → Type 0
Rose before now = min (before + 1) (2 ^ 64 - 1) ≤ now

-- a count of faults never falls, and an error comes only where it rose
pub record HasCause {T E : Type 0} (before now : ℕ) (result : Result T E) : Type 0 where
  pub later : before ≤ now
  pub failed : OnErr result (Rose before now)

-- a count of faults rises by one at an error, and stays where there is none
abbrev pub CountsFault : {T E : Type 0} → ℕ → ℕ → Result T E → Type 0
CountsFault before now result = MatchResult result (λ _. now ≡ before) (λ _. now ≡ raised before)
