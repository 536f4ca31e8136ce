-- Walks, and an evacuation in which nothing is left to do.
use Rattle.std.specs.Prelude.{⊤, ◌≡◌, ℕ, List, [], ◌∷◌, Some}
use Rattle.bal_core.specs.declared.event.Decision.{Decision}
use Rattle.bal_core.specs.World.{IsRoot, PointsTo, State, World, word_of}

-- a walk by the objects on it, told from its end back to an object that a root holds
abbrev pub IsWalk : World → List ℕ → Type 0
IsWalk w [] = ⊥
IsWalk w (k ∷ []) = IsRoot w k
IsWalk w (k ∷ j ∷ before) = PointsTo w j k × IsWalk w (j ∷ before)

-- a walk ends at the object
abbrev pub EndsWalk : World → ℕ → Type 0
EndsWalk w k = (before : List ℕ) × IsWalk w (k ∷ before)

-- an object is decided
abbrev pub IsDecided : State → ℕ → Type 0
IsDecided s k = (d : Decision) × (word_of s k ≡ Some d)

-- all objects on a walk are decided
abbrev pub AreDecided : State → List ℕ → Type 0
AreDecided s [] = ⊤
AreDecided s (k ∷ before) = IsDecided s k × AreDecided s before

-- a walk of decided objects ends at the object
abbrev pub EndsDecidedWalk : State → ℕ → Type 0
EndsDecidedWalk s k = (before : List ℕ) × IsWalk s.world (k ∷ before) × AreDecided s (k ∷ before)

-- each root and each target of a decided object is decided
pub record IsAtRest (s : State) : Type 0 where
  pub roots : (k : ℕ) → IsRoot s.world k → IsDecided s k
  pub targets : (j k : ℕ) → IsDecided s j → PointsTo s.world j k → IsDecided s k
