-- What the laws of this crate ask of an evacuation and of the board.
use Rattle.std.specs.Prelude.{◌≡◌, ◌≤◌, ◌↔◌, ℕ, IsTrue, List, length}
use Rattle.std.specs.List.{AllByRecursion}
use Rattle.bal_layout.specs.Names.{is_among}
use Rattle.bal_layout.specs.Regions.{all_regions}
use Rattle.bal_layout.specs.declared.name.Name.{Name}
use Rattle.bal_core.specs.World.{At, age_of}
use Rattle.bal_core.specs.Rest.{EndsWalk}
use Rattle.bal_core.specs.Steps as steps
use Rattle.bal_core.specs.declared.row.Drawn.{Drawn}
use Rattle.bal_core.specs.Finished.{AreFilled, ArePackedTight, Evacuation, IsEvacuated, IsWithinLimit, LeavesSome, Receives}
use Rattle.bal_model.specs.Ascending.{IsAscending}
use Rattle.bal_model.specs.Kept.{kept_names}
use Rattle.bal_model.specs.declared.config.Config.{Config}
use Rattle.bal_model.specs.declared.event.Kept.{Kept}
use Rattle.bal_rules.specs.Board.{Board, names_placed}
use Rattle.bal_rules.specs.Choice.{choice, is_remembered}
use Rattle.bal_rules.specs.Packing.{crew}
use Rattle.bal_rules.specs.PartialEvents.{placed_in}
use Rattle.bal_told.specs.OnBoard.{IsOfBoard}
use Rattle.bal_told.specs.Telling.{AreTold}

-- a region is drawn only for copies of the age that some object of the evacuation gets, even if another worker then decides
-- that object
pub record AreDrawnForObjects (e : Evacuation) : Type 0 where
  pub object : (n i : ℕ) (d : Drawn) → Receives e n i d → (k : ℕ) × (x : Name) × At e.world.names k x × (steps.next_age (age_of e.world k) ≡ d.age)

-- an evacuation of the chosen regions of a board, as careful workers leave it and the journal tells it. At least one worker
-- decided, and at most as many as the rules allow; if they allow just one, it drew no region in vain
pub record IsWhole (c : Config) (b : Board) (chosen : List ℕ) (e : Evacuation) (kept : List Kept) : Type 0 where
  pub evacuated : IsEvacuated e
  pub tight : ArePackedTight e
  pub limit : IsWithinLimit c.abort_after e
  pub leaves : LeavesSome e
  pub drawn : AreDrawnForObjects e
  pub board : IsOfBoard c b chosen e
  pub told : AreTold e kept
  pub one : 1 ≤ length e.won
  pub most : length e.won ≤ crew c b chosen
  pub alone : crew c b chosen ≡ 1 → AreFilled e

-- the walks of the evacuation end at just the names that the plain graph keeps of the chosen regions
pub record AreWalksOf (b : Board) (chosen : List ℕ) (e : Evacuation) : Type 0 where
  pub ends : (x : Name) → IsTrue (is_among x (kept_names b.plain (names_placed b.present) (names_placed (placed_in chosen b))))
      ↔ ((k : ℕ) × At e.world.names k x × EndsWalk e.world k)

-- a partial collection of these regions may begin: there is a worker, they are the choice, and the cards were flushed
pub record MayCollect (c : Config) (b : Board) (chosen : List ℕ) : Type 0 where
  pub workers : 1 ≤ c.workers
  pub ascending : IsAscending (names_placed b.present)
  pub the_choice : chosen ≡ choice c b.regions
  pub all_flushed : AllByRecursion (λ (q : ℕ). IsTrue (is_remembered b q)) (all_regions b.regions)
