-- What the present objects take of the heap: each of them no more of its region than the largest may, and the leaves that it
-- asked for; and there are no other leaves.
use Rattle.std.specs.Prelude.{◌≡◌, ◌≤◌, ℕ, IsTrue, length, Option, Some, None}
use Rattle.std.specs.List.{AllByRecursion}
use Rattle.bal_layout.specs.Regions.{is_in, is_leaf, region_at}
use Rattle.bal_layout.specs.Shape.{IsShape, largest_of}
use Rattle.bal_layout.specs.declared.name.Name.{Name}
use Rattle.bal_model.specs.Plain.{Object, object}
use Rattle.bal_model.specs.Sizes.{size_of}
use Rattle.bal_model.specs.declared.config.Config.{Config}
use Rattle.bal_rules.specs.Board.{Board, Placed, leaves_of, names_placed, words_of}
use Rattle.bal_rules.specs.Sound.{IsAscending}

-- the leaves that an object asks for
abbrev pub leaves_of_object : Config → Option Object → ℕ
leaves_of_object c None = 0
leaves_of_object c (Some o) = (size_of c.geometry o).leaves

abbrev pub leaves_asked : Config → Board → Name → ℕ
leaves_asked c b x = leaves_of_object c (object b.plain x)

pub record IsOccupiedByObjects (c : Config) (b : Board) : Type 0 where
  pub geometry : IsShape c.geometry
  -- there are as many regions as the geometry has
  pub count : length b.regions ≡ c.geometry.regions
  -- no object is present twice
  pub apart : IsAscending (names_placed b.present)
  -- no object takes more of its region than the largest may
  pub largest : AllByRecursion (λ (p : Placed). words_of c b p.name ≤ largest_of c.geometry) b.present
  -- each object has as many leaves as it asked for
  pub leaves : AllByRecursion (λ (p : Placed). length p.leaves ≡ leaves_asked c b p.name) b.present
  -- each leaf is an object's
  pub each_leaf : (q : ℕ) → IsTrue (is_leaf (region_at b.regions q).role) → IsTrue (is_in q (leaves_of b.present))
