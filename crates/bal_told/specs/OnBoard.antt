-- An evacuation as one of a board: its objects are the present ones of the chosen regions, and its pool is the free regions.
use Rattle.std.specs.Prelude.{◌≡◌, ℕ, IsTrue, List, Some}
use Rattle.bal_layout.specs.Names.{is_among}
use Rattle.bal_layout.specs.Regions as regions
use Rattle.bal_layout.specs.Regions.{free_regions, is_in, region_at}
use Rattle.bal_layout.specs.declared.name.Name.{Name}
use Rattle.bal_core.specs.World.{At, World, age_of, size_of}
use Rattle.bal_core.specs.Finished.{Evacuation}
use Rattle.bal_model.specs.declared.config.Config.{Config}
use Rattle.bal_rules.specs.Board.{Board, Placed, names_placed, place_of, words_of}
use Rattle.bal_rules.specs.PartialEvents.{placed_in}

-- object k of the evacuation is the present object of this name: it lies in a chosen region, which has the object's age, and it
-- takes as many words
pub record IsObjectOf (c : Config) (b : Board) (chosen : List ℕ) (e : Evacuation) (k : ℕ) (x : Name) : Type 0 where
  pub placed : Placed
  pub present : place_of b.present x ≡ Some placed
  pub lies : IsTrue (is_in placed.region chosen)
  pub age : regions.age_of (region_at b.regions placed.region).role ≡ age_of e.world k
  pub words : words_of c b x ≡ size_of e.world k

-- no two objects have one name
abbrev pub AreNamedApart : World → Type 0
AreNamedApart w = (j k : ℕ) (x : Name) → At w.names j x → At w.names k x → j ≡ k

-- the evacuation is one of these chosen regions of the board
pub record IsOfBoard (c : Config) (b : Board) (chosen : List ℕ) (e : Evacuation) : Type 0 where
  pub shape : e.world.shape ≡ c.geometry
  pub pool : e.world.pool ≡ free_regions b.regions
  pub inside : (k : ℕ) (x : Name) → At e.world.names k x → IsObjectOf c b chosen e k x
  pub all : (x : Name) → IsTrue (is_among x (names_placed (placed_in chosen b))) → (k : ℕ) × At e.world.names k x
  pub distinct : AreNamedApart e.world
