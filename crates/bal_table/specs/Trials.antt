-- Regions with which it is tried to put them back.
use Rattle.std.specs.Prelude.{◌≡◌, [], ◌∷◌}
use Rattle.bal_region.specs.Land.{Land}
use Rattle.bal_table.specs.Occupied.{IsVacant, Occupied}

-- just these two regions are out, and have no object
pub record AreOut (o : Occupied) (low high : Land) : Type 0 where
  pub out : o.out ≡ low.number ∷ high.number ∷ []
  pub apart : low.number ≡ high.number → ⊥
  pub first : IsVacant o.table low.number low
  pub second : IsVacant o.table high.number high
