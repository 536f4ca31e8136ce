-- When a worker is asked to stop copying, and how its wishes are counted.
use Rattle.std.specs.Prelude.{◌≡◌, ℕ, ◌≤◌, Bool, if◌then◌else◌, Option, Some, None}
use Rattle.bal_source.specs.Causes.{raised}

-- there is a limit, and so many objects reach it
abbrev pub IsReached : Option ℕ → ℕ → Type 0
IsReached None copied = ⊥
IsReached (Some limit) copied = limit ≤ copied

-- an answer raises its own count, and leaves the other
pub record CountsAnswer (answer : Bool) (yes_before yes no_before no : ℕ) : Type 0 where
  pub yes_counted : yes ≡ (if answer then raised yes_before else yes_before)
  pub no_counted : no ≡ (if answer then no_before else raised no_before)
