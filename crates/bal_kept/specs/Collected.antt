-- A heap some of whose regions are about to be collected, as a board tells it, with what was gathered of it; and the world in
-- which the objects of these regions are evacuated.
use Rattle.std.specs.Prelude.{◌≡◌, ℕ, List, Some}
use Rattle.bal_barrier.specs.Coverage.{AreRemembered}
use Rattle.bal_core.specs.Rest.{EndsWalk}
use Rattle.bal_core.specs.Start.{world_of}
use Rattle.bal_core.specs.World.{At, World}
use Rattle.bal_gather.specs.Gathered.{IsGathered, NoneOverflowed}
use Rattle.bal_gather.specs.Lent.{Lent}
use Rattle.bal_gather.specs.Objects.{graph_of}
use Rattle.bal_layout.specs.Addresses.{region_of}
use Rattle.bal_layout.specs.declared.name.Name.{Name}
use Rattle.bal_meet.specs.Decode.{Decodes}
use Rattle.bal_model.specs.Entries.{Spot}
use Rattle.bal_model.specs.Kept.{kept_names}
use Rattle.bal_rules.specs.Board.{Board, names_placed}
use Rattle.bal_rules.specs.PartialEvents.{placed_in}
use Rattle.bal_table.specs.Table.{IsTable, things_of}
use Rattle.bal_words.specs.Things.{Thing}

-- the words of a heap and of its roots are a board's, and this was gathered of what holds the objects of the chosen regions
pub record IsCollectedFrom (b : Board) (spot : ℕ → Spot) (l : Lent) (roots held places : List ℕ) : Type 0 where
  pub table : IsTable l.table
  pub decodes : Decodes spot (things_of l.table) roots b.plain b.present
  -- the board places each object in the region in which its words lie
  pub lies : (a : ℕ) (x : Thing) → things_of l.table a ≡ Some x → (spot a).region ≡ region_of l.table.shape a
  -- the chosen regions know of each reference into them: a flush went before, and no list of theirs has overflowed
  pub remembered : AreRemembered l.table
  pub complete : NoneOverflowed l
  pub gathered : IsGathered l roots held places

-- the names of the objects in some regions, and of those among them that the rules keep, both in order
abbrev pub names_chosen : Board → List ℕ → List Name
names_chosen b regions = names_placed (placed_in regions b)

abbrev pub names_to_keep : Board → List ℕ → List Name
names_to_keep b regions = kept_names b.plain (names_placed b.present) (names_chosen b regions)

-- the world in which the objects of the chosen regions are evacuated, into the regions of a pool
abbrev pub world_from : Lent → List ℕ → List ℕ → World
world_from l held pool = world_of l.table.shape (graph_of l) held pool

-- a walk ends at an object of this name
abbrev pub IsReached : World → Name → Type 0
IsReached w x = (k : ℕ) × At w.names k x × EndsWalk w k
