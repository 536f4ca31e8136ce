-- Where the board has the objects, before and after.
use Rattle.std.specs.Prelude.{◌≡◌, ◌↔◌, ℕ, Some}
use Rattle.bal_core.specs.Finished.{Evacuation, Survives}
use Rattle.bal_core.specs.declared.event.Decision.{Decision}
use Rattle.bal_copyfwd.specs.Moving.{Decisions}

-- these are the decisions that the workers of an evacuation took
pub record AreTaken (e : Evacuation) (decisions : Decisions) : Type 0 where
  pub each : (k : ℕ) (d : Decision) → (decisions k ≡ Some d) ↔ ((n : ℕ) × (i : ℕ) × Survives e n i k d)
