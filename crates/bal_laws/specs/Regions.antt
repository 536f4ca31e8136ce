-- What holds of the regions of every board.
use Rattle.std.specs.Prelude.{◌==◌, ⊤, ℕ, IsTrue, List, not}
use Rattle.std.specs.List.{AllByRecursion}
use Rattle.bal_layout.specs.Regions.{region_of_card}
use Rattle.bal_remember.specs.Remembered.{Remembered, cards, overflowed}
use Rattle.bal_layout.specs.Shape.{Shape}
use Rattle.bal_layout.specs.declared.region_state.RegionState.{RegionState}

-- a list has no card of a region
abbrev pub HasNoCardOf : Shape → ℕ → Remembered → Type 0
HasNoCardOf s q (cards cs) = AllByRecursion (λ (card : ℕ). IsTrue (not (region_of_card s card == q))) cs
HasNoCardOf s q overflowed = ⊤

-- no list has one
abbrev pub HaveNoCardOf : Shape → ℕ → List RegionState → Type 0
HaveNoCardOf s q regions = AllByRecursion (λ (r : RegionState). HasNoCardOf s q r.remembered) regions
