-- The states of the regions between the evacuation and the board that it leaves.
use Rattle.std.specs.Prelude.{◌≡◌, ◌==◌, ◌≤◌, ◌⊎◌, ℕ, IsTrue, List, length}
use Rattle.std.specs.List.{sum_by}
use Rattle.bal_after.specs.Asked.{AreMarkedIn, GotNoCopy, with_copies}
use Rattle.bal_core.specs.Finished.{Evacuation, Receives, filled}
use Rattle.bal_core.specs.World.{size_of}
use Rattle.bal_core.specs.declared.row.Drawn.{Drawn}
use Rattle.bal_layout.specs.Regions.{is_in, region_at}
use Rattle.bal_rules.specs.Board.{Board}
use Rattle.bal_settle.specs.Settled.{is_lost}
use Rattle.bal_sweep.specs.Sweep.{left_at, words_of}
use Rattle.bal_table.specs.Table.{Table}

-- copies went to this region
pub record GotCopies (e : Evacuation) (q : ℕ) : Type 0 where
  pub worker : ℕ
  pub order : ℕ
  pub drawn : Drawn
  pub drew : Receives e worker order drawn
  pub here : drawn.region ≡ q
  pub some : 1 ≤ filled e worker drawn

-- once the regions are back, one with copies has their age and their words, and each other region is as the board has it
pub record AreBack (b : Board) (chosen : List ℕ) (e : Evacuation) (u : Table) : Type 0 where
  pub count : length u.regions ≡ length b.regions
  pub inside : (q : ℕ) → IsTrue (is_in q chosen) → region_at u.regions q ≡ region_at b.regions q
  pub copies : (n i : ℕ) (d : Drawn) → Receives e n i d → 1 ≤ filled e n d
      → region_at u.regions d.region ≡ with_copies d.age (filled e n d) (region_at b.regions d.region)
  pub others : (q : ℕ) → GotNoCopy e q → region_at u.regions q ≡ region_at b.regions q
  pub older : (n i : ℕ) (d : Drawn) → Receives e n i d → 1 ≤ d.age
  pub known : (q : ℕ) → GotCopies e q ⊎ GotNoCopy e q

-- the marked objects of a region by number, each once, and their words
pub record AreCounted (b : Board) (e : Evacuation) (u : Table) (marked : List ℕ) (q : ℕ) : Type 0 where
  pub objects : List ℕ
  pub are : AreMarkedIn b e q objects
  pub words : words_of (left_at marked u q) ≡ sum_by (size_of e.world) objects
  pub none : is_lost u.shape marked q ≡ (length objects == 0)
