-- Numbers between two others, and the members of a set that lie there.
use Rattle.std.specs.Prelude.{ℕ, ◌<◌, ◌≤◌, ◌&&◌, not, nat_le, nat_lt, Bool, IsTrue, List, Option, Some, None}
use Rattle.bal_base.specs.Bits.{IsNextFrom, is_member}

-- a number stands before one, or not before another
abbrev pub outside : ℕ → ℕ → ℕ → Bool
outside from to n = not (nat_le from n && nat_lt n to)

-- the least of them between one number and another, which is not meant, or that none is there
abbrev pub IsNextBetween : List ℕ → ℕ → ℕ → Option ℕ → Type 0
IsNextBetween members from to None = (n : ℕ) → IsTrue (is_member members n) → from ≤ n → to ≤ n
IsNextBetween members from to (Some s) = IsNextFrom members from (Some s) × (s < to)
