-- Sets of numbers, as their members in ascending order.
use Rattle.std.specs.Prelude.{ℕ, ◌<◌, ◌≤◌, ◌==◌, ⊤, Bool, IsTrue, List, [], ◌∷◌, not, nat_lt, Option, None, Some, if◌then◌else◌}
use Rattle.std.specs.List.{filter, list_any}

-- a set's members, and for how many numbers from 0 on it has room
pub record Members : Type 0 where
  pub members : List ℕ
  pub room : ℕ

-- a number is one of them
abbrev pub is_member : List ℕ → ℕ → Bool
is_member members n = list_any (λ m. m == n) members

-- with one more, which stands after the lesser and before the greater ones
abbrev pub with_member : ℕ → List ℕ → List ℕ
with_member n [] = n ∷ []
with_member n (m ∷ ms) = if nat_lt n m then n ∷ m ∷ ms else if m == n then m ∷ ms else m ∷ with_member n ms

-- without one
abbrev pub without_member : ℕ → List ℕ → List ℕ
without_member n members = filter (λ m. not (m == n)) members

-- each is less than all that come after it
abbrev pub IsAscending : List ℕ → Type 0
IsAscending [] = ⊤
IsAscending (m ∷ ms) = ((n : ℕ) → IsTrue (is_member ms n) → m < n) × IsAscending ms

-- the least of them that is not below a number, or that none is
abbrev pub IsNextFrom : List ℕ → ℕ → Option ℕ → Type 0
IsNextFrom members n None = (m : ℕ) → IsTrue (is_member members m) → m < n
IsNextFrom members n (Some s) = IsTrue (is_member members s) × (n ≤ s) × ((m : ℕ) → IsTrue (is_member members m) → n ≤ m → s ≤ m)

-- the greatest of them that is not above a number, or that none is
abbrev pub IsLastTo : List ℕ → ℕ → Option ℕ → Type 0
IsLastTo members n None = (m : ℕ) → IsTrue (is_member members m) → n < m
IsLastTo members n (Some s) = IsTrue (is_member members s) × (s ≤ n) × ((m : ℕ) → IsTrue (is_member members m) → m ≤ n → m ≤ s)
