-- A collection as one of the board that the words meet.
use Rattle.std.proofs.Common.{◌≡◌, ◌<◌, ℕ, true, List, [], ◌∷◌, map, refl, ap, sym, ◌∙◌}
use Rattle.std.specs.Prelude.{option_and_then}
use Rattle.bal_base.proofs.Lemmas.{among-first, among-later}
use Rattle.bal_global.specs.Global.{IsOnBoard, heap_by}
use Rattle.bal_kept.specs.Collected.{IsCollectedFrom, world_from}
use Rattle.bal_layout.specs.Regions.{free_regions, is_in}
use Rattle.bal_meet.specs.Heap.{Account, Heap, Meets, spot_at, with_things}
use Rattle.bal_model.specs.declared.config.Config.{Config}
use Rattle.bal_partial.proofs.Mendable.{remembered-out}
use Rattle.bal_partial.specs.Collection.{Collection, IsCollection, lent_by, seen_of}
use Rattle.bal_region.specs.Land.{Land}
use Rattle.bal_rules.specs.Board.{Board}
use Rattle.bal_table.proofs.Lemmas.{IsTable-vacated, free-numbered, objects-vacated}
use Rattle.bal_table.specs.Occupied.{vacated}
use Rattle.bal_table.specs.Table.{IsTable, Table, land_at, thing_in, things_of}
use Rattle.bal_words.specs.Things.{Things}

-- free regions have their own numbers
pub numbers-own : (t : Table) → IsTable t → (qs : List ℕ) → ((q : ℕ) → is_in q qs ≡ true → q < t.shape.regions) → map (λ (l : Land). l.number) (map (land_at t) qs) ≡ qs
numbers-own t table [] within = refl
numbers-own t table (q ∷ qs) within =
    ap (λ n. n ∷ map (λ (l : Land). l.number) (map (land_at t) qs)) (table.each q (within q (among-first q qs))).number
    ∙ ap (λ (ns : List ℕ). q ∷ ns) (numbers-own t table qs (λ p among. within p (among-later q p qs among)))

abbrev pub OtherWords : Type 0
OtherWords = (h : Heap) (b : Board) (things : Things) → Meets h b → ((a : ℕ) → things a ≡ h.things a) → Meets (with_things things h) b

module _ (c : Config) (b : Board) (made roots : List ℕ) (x : Collection) (on : IsOnBoard c x.table roots made b) (is : IsCollection roots x) where
  pub regions-are : b.regions ≡ x.table.regions
  regions-are = ap (λ (a : Account). a.regions) (sym on.meets.account)

  pub from-board : OtherWords → IsCollectedFrom b (spot_at (heap_by x.table roots made)) (lent_by x) roots x.held x.places
  from-board other = record {
    table = IsTable-vacated x.table is.evacuation.table;
    decodes = (other (heap_by x.table roots made) b (things_of (vacated x.table)) on.meets (λ a. ap (option_and_then thing_in) (objects-vacated x.table is.evacuation.table a))).decodes;
    lies = λ a y at. refl;
    remembered = remembered-out x.table is.evacuation.table is.begins.remembered;
    complete = is.begins.may.known;
    gathered = is.gathered;
  }

  -- the pool is the board's
  pub world-is : (seen_of x).world ≡ world_from (lent_by x) x.held (free_regions b.regions)
  world-is =
      ap (world_from (lent_by x) x.held)
      (numbers-own x.table is.evacuation.table (free_regions x.table.regions) (λ q among. (free-numbered x.table is.evacuation.table q among).0)
      ∙ ap free_regions (sym regions-are))
