-- The region of a card.
use Rattle.std.proofs.Common.{◌≡◌, ◌/◌, ◌==◌, ℕ, List, [], ◌∷◌, refl, arith}
use Rattle.bal_layout.specs.Addresses.{card_of, region_of}
use Rattle.bal_layout.specs.Regions.{region_of_card}
use Rattle.bal_layout.specs.Shape.{Shape, IsShape, region_sizes}
use Rattle.bal_layout.proofs.Shapes.{one-of}

-- a card lies in the region of each of its words
pub card-region : (s : Shape) (a : ℕ) → IsShape s → region_of_card s (card_of a) ≡ region_of s a
card-region s a is = one-of (λ n. (a / 64) / (n / 64) ≡ a / n) region_sizes s.words
    (omega arith, (omega arith, (omega arith, (omega arith, (omega arith, (omega arith, (omega arith, (omega arith, (omega arith, tt))))))))) is.power_of_two
