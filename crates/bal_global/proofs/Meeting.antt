-- The heap after a collection: it meets the board that the collection leaves.
use Rattle.std.proofs.Common.{◌≡◌, ℕ, Bool, IsTrue, List, [], ◌∷◌, map, Option, Some, None, refl, ap, ap₂, subst, sym, ◌∙◌}
use Rattle.std.proofs.lemmas.Option.{get_or_from_slice_get, slice_get_within}
use Rattle.bal_barrier.specs.Flush.{LeadToObjects}
use Rattle.bal_barrier.proofs.Lemmas.{crosses-states, has}
use Rattle.bal_compact.specs.Compacted.{IsCompacted, packed_region, region_of_objects}
use Rattle.bal_layout.specs.Addresses.{region_of}
use Rattle.bal_layout.specs.Graph.{Graph}
use Rattle.bal_layout.specs.Regions.{all_regions, is_in}
use Rattle.bal_layout.specs.Shape.{Shape}
use Rattle.bal_layout.specs.declared.name.Name.{Name}
use Rattle.bal_layout.specs.declared.region_state.RegionState.{RegionState}
use Rattle.bal_meet.specs.Decode.{placed_at}
use Rattle.bal_meet.specs.Heap.{ArePlaced, Moves, made_counts, spot_at}
use Rattle.bal_meet.proofs.Lemmas.{AreMovedPlaced}
use Rattle.bal_model.specs.declared.config.Config.{Config}
use Rattle.bal_model.specs.declared.event.Packed.{Packed}
use Rattle.bal_plan.specs.Plan.{name_of, starts_of, told_by_plan}
use Rattle.bal_rebuild.specs.Crossings.{HasCrossing}
use Rattle.bal_rebuild.specs.Rebuilt.{with_empty_list, with_empty_lists}
use Rattle.bal_rules.specs.Board.{Board, placed_except}
use Rattle.bal_rules.specs.GlobalEvents.{after_global, placed_after_packing}
use Rattle.bal_rules.proofs.Lemmas.{repacked-name}
use Rattle.bal_table.specs.Table.{IsTable, Table, things_of, word_at}
use Rattle.bal_words.specs.Moved.{Carried, word_to}
use Rattle.bal_words.specs.Shown.{Finds, Shows}
use Rattle.bal_words.specs.Things.{Thing}
use Rattle.bal_words.proofs.Lemmas.{shows-moved}
use Rattle.bal_global.specs.Global.{IsOnBoard, heap_by}
use Rattle.bal_global.specs.Cleared.{IsCleared}
use Rattle.bal_global.proofs.Ages.{regions-packed}
use Rattle.bal_global.proofs.Garbage.{keeps-not, once-left}
use Rattle.bal_global.proofs.Laws.{HeadersAreRead, MovesAreMet, PathsAreWalks}
use Rattle.bal_global.proofs.Left.{carried-on, is-left}
use Rattle.bal_global.proofs.Marked.{closed-marked, held-marked}
use Rattle.bal_global.proofs.Named.{graph_left, kept-left, start-there}
use Rattle.bal_global.proofs.Numbers.{map-over, map-same_in}
use Rattle.bal_global.proofs.Placed.{packed-found}

-- Lists that are empty already.

empty-already : (u : Table) (current : Option ℕ) (q : ℕ) (xs : List ℕ) → with_empty_list (region_of_objects u current q xs) ≡ region_of_objects u current q xs
empty-already u current q [] = refl
empty-already u current q (a ∷ xs) = refl

pub regions-emptied : (u v : Table) (to : ℕ → ℕ) → IsCompacted u v to → (with_empty_lists v).regions ≡ map (packed_region u to) (all_regions u.regions)
regions-emptied u v to moved =
    ap (map with_empty_list) moved.regions
    ∙ (map-over with_empty_list (packed_region u to) (all_regions u.regions)
    ∙ map-same_in (λ q. with_empty_list (packed_region u to q)) (packed_region u to) (all_regions u.regions) (λ q among. empty-already u _ q _))

-- references between regions are the same whatever is remembered
pub crossing-emptied : (v : Table) (card : ℕ) → HasCrossing v None card → HasCrossing (with_empty_lists v) None card
crossing-emptied v card h = record {
  holder = h.holder;
  number = h.number;
  place = h.place;
  target = h.target;
  crosses = crosses-states (with_empty_lists v) v.regions v.current h.holder h.number h.place h.target h.crosses;
  leads = h.leads;
  on = h.on;
}

pub crossing-before : (v : Table) (card : ℕ) → HasCrossing (with_empty_lists v) None card → HasCrossing v None card
crossing-before v card h = record {
  holder = h.holder;
  number = h.number;
  place = h.place;
  target = h.target;
  crosses = crosses-states v (map with_empty_list v.regions) v.current h.holder h.number h.place h.target h.crosses;
  leads = h.leads;
  on = h.on;
}

-- in a table that shows a graph no reference dangles
pub lead-shown : (v : Table) (g : Graph) → IsTable v → Shows (things_of v) g → LeadToObjects v
lead-shown v g table s = record {
  each = λ a i p slot.
      let h = has v a i p table slot in
      subst (Finds (things_of v)) (get_or_from_slice_get h.thing.refs i (word_at v p) 0 h.reads)
      (s.found a h.thing h.is i 0 (slice_get_within h.thing.refs i (word_at v p) h.reads));
}

module _ (t u v : Table) (roots marked : List ℕ) (dead : List Name) (to : ℕ → ℕ) (cleared : IsCleared t u roots marked dead) (moved : IsCompacted u v to) where
  abbrev keeps : ℕ → Bool
  keeps a = is_in a marked

  carried : Carried (things_of t) moved.middle keeps to
  carried = carried-on (things_of t) (things_of u) marked cleared.swept.objects moved.middle to moved.carried

  -- the graph of what is left
  pub shows-after : (g : Graph) → Shows (things_of t) g → Shows (things_of v) (graph_left g u)
  shows-after g s =
      shows-moved (things_of t) moved.middle (things_of v) g (graph_left g u) keeps to s carried moved.mended (closed-marked (things_of t) roots marked cleared.reached)
      (kept-left (things_of t) u marked g cleared.now cleared.swept.objects)

  same-shape : v.shape ≡ t.shape
  same-shape = moved.shape ∙ cleared.swept.shape

  module _ (c : Config) (made : List ℕ) (b : Board) (on : IsOnBoard c t roots made b) (walks : PathsAreWalks) (headers : HeadersAreRead)
      (now : List ℕ) (roots-now : now ≡ map (word_to to) roots) where
    abbrev packed : List Packed
    packed = told_by_plan u to

    moves : Moves (heap_by t roots made) (heap_by (with_empty_lists v) now made) moved.middle keeps to
    moves = record {
      shape = same-shape;
      carried = carried;
      mended = moved.mended;
      closed = closed-marked (things_of t) roots marked cleared.reached;
      held = held-marked (things_of t) roots marked cleared.reached;
      roots = roots-now;
      made = refl;
    }

    -- each object lies where it was told that it was packed
    lies : (a : ℕ) (x : Thing) → things_of t a ≡ Some x → IsTrue (keeps a)
        → placed_after_packing packed (placed_at x.name (spot_at (heap_by t roots made) a))
        ≡ placed_at x.name (spot_at (heap_by (with_empty_lists v) now made) (to a))
    lies a x is kept =
        let left = is-left (things_of t) (things_of u) marked cleared.swept.objects a x is kept in
        packed-found u to (starts_of u) a (placed_at x.name (spot_at (heap_by t roots made) a)) (once-left t u roots made marked dead b cleared on.meets walks)
        (start-there u a x cleared.now left) (sym (ap name_of left))
        ∙ ap (λ (s : Shape). record { name = x.name; region = region_of s (to a); leaves = [] }) (sym moved.shape)

    present : AreMovedPlaced
        → ArePlaced (things_of t) (spot_at (heap_by (with_empty_lists v) now made)) keeps to (map (placed_after_packing packed) (placed_except dead b.present))
    present placed =
        placed (heap_by t roots made) (heap_by (with_empty_lists v) now made) keeps to b dead (placed_after_packing packed) on.meets
        (keeps-not t u roots made marked dead b cleared on.meets walks) (repacked-name packed) lies

    pub met-after : MovesAreMet → AreMovedPlaced → IsOnBoard c (with_empty_lists v) now made (after_global c b dead packed)
    met-after met placed =
        let m = met (heap_by t roots made) (heap_by (with_empty_lists v) now made) moved.middle keeps to b (map (placed_after_packing packed) (placed_except dead b.present))
        on.meets moves (present placed) in
        record {
          shape = on.shape ∙ sym same-shape;
          meets = record {
            decodes = m.decodes;
            account = m.account
                ∙ ap₂ (λ (regions : List RegionState) (current : Option ℕ). record { made = made_counts b.plain; regions = regions; current = current })
                (regions-emptied u v to moved ∙ regions-packed c t u roots made marked dead b cleared on walks headers to) moved.current;
          };
        }
