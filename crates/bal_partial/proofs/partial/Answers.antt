use Rattle.std.proofs.Common.{◌≡◌, ℕ, List, length, ap, subst, sym, ◌∙◌, arith}
use Rattle.bal_copyfwd.specs.Filled.{MayFill, with_all_filled}
use Rattle.bal_copyfwd.specs.Returned.{backs_of, refilled}
use Rattle.bal_global.specs.Global.{IsOnBoard}
use Rattle.bal_layout.specs.declared.name.Abort.{Abort}
use Rattle.bal_meet.specs.Heap.{Account}
use Rattle.bal_model.specs.declared.config.Config.{Config}
use Rattle.bal_partial.proofs.Beginning.{begins}
use Rattle.bal_partial.proofs.MendedSteps.{refilled-shape}
use Rattle.bal_partial.specs.Collection.{AreSurvivorRegions, Collection}
use Rattle.bal_partial.specs.Mended.{IsMended}
use Rattle.bal_partial.specs.Mending.{MayMend}
use Rattle.bal_partial.specs.Outcome.{HasEvacuated, collection_of}
use Rattle.bal_rules.specs.Board.{Board}
use Rattle.bal_rules.specs.Choice.{choice}
use Rattle.bal_rules.specs.Packing.{IsEvacuation}
use Rattle.bal_rules.specs.PartialEvents.{after_partial}
use Rattle.bal_table.specs.Occupied.{Occupied}
use Rattle.bal_table.specs.Table.{Table}
use Rattle.bal_partial.proofs.partial.Goals as goal

pub evacuate-requires-clause-begins : goal.evacuate-requires-clause-begins
evacuate-requires-clause-begins c = (
  c.args.table.now,
  c.in_ok-occupied.ensures.ok,
  begins c.args.table.now c.requires.graph.0 c.args.older c.in_ok-chosen.chosen.list c.args.roots.now c.as_slice.result.now c.as_slice.ensures c.in_ok-chosen.ensures
      c.what_is_chosen_may_be_collected.ensures c.geometry.ensures.limits c.requires.graph.1 c.requires.held c.requires.remembered,
)

-- what the evacuation left, and the collection that it was
has : (c : goal.In-Ok) → HasEvacuated c.args.table.now c.as_slice.result.now c.args.roots.now c.args.limit c.evacuate.new.moves c.in-Ok.outcome
has c =
    c.in-Ok.ensures.ok c.args.table.now c.in_ok-occupied.ensures.ok
    (begins c.args.table.now c.requires.graph.0 c.args.older c.in_ok-chosen.chosen.list c.args.roots.now c.as_slice.result.now c.as_slice.ensures c.in_ok-chosen.ensures
    c.what_is_chosen_may_be_collected.ensures c.geometry.ensures.limits c.requires.graph.1 c.requires.held c.requires.remembered)

abbrev of : goal.In-Ok → Collection
of c = collection_of c.args.table.now c.as_slice.result.now c.args.limit (has c).held c.in-Ok.outcome

pub put_survivors_back-requires-clause-idle : goal.put_survivors_back-requires-clause-idle
put_survivors_back-requires-clause-idle c = (has c).is.evacuation.idle

pub put_survivors_back-requires-clause-may : goal.put_survivors_back-requires-clause-may
put_survivors_back-requires-clause-may c =
    subst (λ (o : Occupied). MayFill o (backs_of c.in-Ok.outcome.evacuated)) (sym c.in_ok-occupied.ensures.ok.occupied)
    (c.what_was_out_may_be_put_back.ensures.fill c.args.roots.now (of c) (has c).is)

-- the copies are in the table
back : (c : goal.After-as_slice-in-Ok) → c.put_survivors_back.result ≡ refilled c.args.table.now c.in-Ok.outcome.evacuated
back c = c.put_survivors_back.ensures ∙ ap (λ (o : Occupied). with_all_filled (backs_of c.in-Ok.outcome.evacuated) o.table) c.in_ok-occupied.ensures.ok.occupied

mendable : (c : goal.After-as_slice-in-Ok) → (x : Collection) × MayMend x c.put_survivors_back.result c.args.roots.now c.evacuate.new.moves c.as_slice-in-Ok.result.now
    c.as_slice-marked.result.now c.as_slice-places.result.now c.as_slice-regions.result.now
mendable c =
    let h = c.in-Ok.ensures.ok c.args.table.now c.in_ok-occupied.ensures.ok
    (begins c.args.table.now c.requires.graph.0 c.args.older c.in_ok-chosen.chosen.list c.args.roots.now c.as_slice.result.now c.as_slice.ensures c.in_ok-chosen.ensures
    c.what_is_chosen_may_be_collected.ensures c.geometry.ensures.limits c.requires.graph.1 c.requires.held c.requires.remembered) in
    let x : Collection = collection_of c.args.table.now c.as_slice.result.now c.args.limit h.held c.in-Ok.outcome in (
      x,
      record {
        is = h.is;
        table = back c;
        moves = h.moves;
        chosen_are = c.as_slice-in-Ok.ensures ∙ sym c.as_slice.ensures;
        marked_are = c.as_slice-marked.ensures ∙ h.marked;
        places_are = c.as_slice-places.ensures.value;
        regions_are = subst (AreSurvivorRegions x) (sym c.as_slice-regions.ensures) h.regions;
      },
    )

pub mend-requires-clause-shape : goal.mend-requires-clause-shape
unfolding mendable
mend-requires-clause-shape c =
    c.requires.shape ∙ sym (ap (λ (t : Table). t.shape) (back c) ∙ refilled-shape ((mendable c).0))

pub mend-requires-clause-can : goal.mend-requires-clause-can
mend-requires-clause-can c = mendable c

pub overflow_cast-scans : goal.overflow_cast-scans
overflow_cast-scans c =
    let left = c.in-Ok.ensures.ok c.args.table.now c.in_ok-occupied.ensures.ok
    (begins c.args.table.now c.requires.graph.0 c.args.older c.in_ok-chosen.chosen.list c.args.roots.now c.as_slice.result.now c.as_slice.ensures c.in_ok-chosen.ensures
    c.what_is_chosen_may_be_collected.ensures c.geometry.ensures.limits c.requires.graph.1 c.requires.held c.requires.remembered) in
    omega (arith, left.few, c.len-scans.ensures)

-- the heap is mended
module _ (c : goal.After-drop-outcome-in-Ok-2) where
  left : HasEvacuated c.args.table.now c.as_slice.result.now c.args.roots.now c.args.limit c.evacuate.new.moves c.in-Ok.outcome
  left =
      c.in-Ok.ensures.ok c.args.table.now c.in_ok-occupied.ensures.ok
      (begins c.args.table.now c.requires.graph.0 c.args.older c.in_ok-chosen.chosen.list c.args.roots.now c.as_slice.result.now c.as_slice.ensures c.in_ok-chosen.ensures
      c.what_is_chosen_may_be_collected.ensures c.geometry.ensures.limits c.requires.graph.1 c.requires.held c.requires.remembered)

  abbrev x : Collection
  x = collection_of c.args.table.now c.as_slice.result.now c.args.limit left.held c.in-Ok.outcome

  may : MayMend x c.put_survivors_back.result c.args.roots.now c.evacuate.new.moves c.as_slice-in-Ok.result.now c.as_slice-marked.result.now
      c.as_slice-places.result.now c.as_slice-regions.result.now
  may = record {
    is = left.is;
    table = c.put_survivors_back.ensures ∙ ap (λ (o : Occupied). with_all_filled (backs_of c.in-Ok.outcome.evacuated) o.table) c.in_ok-occupied.ensures.ok.occupied;
    moves = left.moves;
    chosen_are = c.as_slice-in-Ok.ensures ∙ sym c.as_slice.ensures;
    marked_are = c.as_slice-marked.ensures ∙ left.marked;
    places_are = c.as_slice-places.ensures.value;
    regions_are = subst (AreSurvivorRegions x) (sym c.as_slice-regions.ensures) left.regions;
  }

  mended : IsMended x c.evacuate.new.moves c.as_slice-regions.result.now c.args.cards.now c.mend.new.cards c.mend.new.table
  mended = c.mend.ensures.mended x may

  chosen-is : c.as_slice.result.now ≡ c.in_ok-chosen.chosen.list
  chosen-is = c.as_slice.ensures

  the-choice : (k : Config) (b : Board) (made : List ℕ) → IsOnBoard k c.args.table.now c.args.roots.now made b → k.older ≡ c.args.older
      → c.as_slice.result.now ≡ choice k b.regions
  the-choice k b made on same = chosen-is ∙ (c.in_ok-chosen.ensures k same ∙ ap (λ (a : Account). choice k a.regions) on.meets.account)

pub returns-in-Ok-clause-legal : goal.returns-in-Ok-clause-legal
returns-in-Ok-clause-legal c = λ k b made on older limit workers.
    subst (λ (qs : List ℕ). IsEvacuation k b qs c.len-scans.result c.in-Ok.outcome.kept.list c.in-Ok.outcome.aborts.list) (chosen-is c)
    (subst (λ n. IsEvacuation k b c.as_slice.result.now n c.in-Ok.outcome.kept.list c.in-Ok.outcome.aborts.list) (sym c.len-scans.ensures)
    (subst (λ (causes : List Abort). IsEvacuation k b c.as_slice.result.now (length c.in-Ok.outcome.kept.list) c.in-Ok.outcome.kept.list causes) (sym (left c).causes)
    (c.a_partial_collection_is_legal.ensures k b made c.args.roots.now (x c) c.in-Ok.outcome.kept.list on limit workers (the-choice c k b made on older) (left c).is (left c).told)))

pub returns-in-Ok-clause-meets : goal.returns-in-Ok-clause-meets
returns-in-Ok-clause-meets c = λ k b made on older limit workers.
    subst (λ (qs : List ℕ). IsOnBoard k c.mend.new.table c.mend.new.roots made (after_partial k b qs c.in-Ok.outcome.kept.list)) (chosen-is c)
    (subst (λ (ws : List ℕ). IsOnBoard k c.mend.new.table ws made (after_partial k b c.as_slice.result.now c.in-Ok.outcome.kept.list)) (sym c.mend.ensures.roots)
    (c.the_board_after_it_is_met.ensures k b made c.args.roots.now (x c) c.in-Ok.outcome.kept.list c.evacuate.new.moves c.as_slice-regions.result.now c.args.cards.now
    c.mend.new.cards c.mend.new.table on limit (left c).is (left c).told (left c).moves (may c).regions_are (mended c)))

pub returns-in-Ok-clause-covered : goal.returns-in-Ok-clause-covered
returns-in-Ok-clause-covered c =
    c.references_are_covered_after_it.ensures c.args.roots.now (x c) c.evacuate.new.moves c.as_slice-regions.result.now c.args.cards.now c.mend.new.cards
    c.mend.new.table (left c).is (left c).moves (may c).regions_are c.requires.shape (mended c)
