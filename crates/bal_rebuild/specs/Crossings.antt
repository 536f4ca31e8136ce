-- On which cards references lie that lead from one region into another.
use Rattle.std.specs.Prelude.{ℕ, ◌≡◌, IfSome, Option}
use Rattle.bal_layout.specs.Addresses.{card_of, region_of}
use Rattle.bal_table.specs.Table.{Table}
use Rattle.bal_barrier.specs.Coverage.{Crosses}

-- a slot lies on the card whose reference leads from another region into this one, or into any if none is given
pub record HasCrossing (t : Table) (into : Option ℕ) (card : ℕ) : Type 0 where
  pub holder : ℕ
  pub number : ℕ
  pub place : ℕ
  pub target : ℕ
  pub crosses : Crosses t holder number place target
  pub leads : IfSome into (λ q. region_of t.shape target ≡ q)
  pub on : card_of place ≡ card

-- and it is one of these slots, by its holder and its number there
pub record HasCrossingOf (t : Table) (into : Option ℕ) (Slots : ℕ → ℕ → Type 0) (card : ℕ) : Type 0 where
  pub crossing : HasCrossing t into card
  pub one : Slots crossing.holder crossing.number
