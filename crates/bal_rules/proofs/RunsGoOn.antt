-- After a global collection of a run the row's own event may come: there is room, or the heap may be called full.
use Rattle.std.proofs.Common.{◌≡◌, ◌⊎◌, inl, inr, Bool, true, false, cond, ◌&&◌, IsTrue, List, Option, Some, None, refl, ap, ◌∙◌}
use Rattle.std.specs.List.{AllByRecursion}
use Rattle.std.proofs.lemmas.Bool.{and_parts, false≢true, or_cases}
use Rattle.bal_layout.specs.Shape.{IsShape}
use Rattle.bal_layout.specs.declared.geometry.Want.{Want}
use Rattle.bal_layout.specs.declared.name.Name.{Name}
use Rattle.bal_model.specs.Entries.{Entry, global}
use Rattle.bal_model.specs.Spelling.{IsRow}
use Rattle.bal_model.specs.declared.config.Config.{Config}
use Rattle.bal_model.specs.declared.event.Packed.{Packed}
use Rattle.bal_model.specs.declared.row.Row.{Row}
use Rattle.bal_rules.specs.Board.{Board}
use Rattle.bal_rules.specs.Full.{is_full_allowed}
use Rattle.bal_rules.specs.GlobalEvents.{IsGlobal, after_global}
use Rattle.bal_rules.specs.Interim.{Rule}
use Rattle.bal_rules.specs.Occupied.{IsOccupiedByObjects}
use Rattle.bal_rules.specs.Path.{IsLegal, Stage, Turn, allocation_at, collected, compacted, ending, full_event, hard_room, is_gc, lacks_room, lacks_room_for, marking, opened, own_at, own_event, own_for, placed_event}
use Rattle.bal_rules.specs.RowEvents.{want_of}
use Rattle.bal_rules.specs.Run.{IsRun, board_of}
use Rattle.bal_rules.proofs.FullAfterGlobal.{full-after}
use Rattle.bal_rules.proofs.RunsOccupied.{run-occupied}

abbrev HasEvent : Option Entry → Type 0
HasEvent o = (e : Entry) × (o ≡ Some e)

-- an allocation is placed, or told that the heap is full
allocation-goes : (rule : Rule) (c : Config) (turn : Turn) (d : Board) (w : Want) → (hard_room c d w ≡ false → is_full_allowed c.geometry d.plain w ≡ true) → HasEvent (allocation_at rule c turn compacted d w)
allocation-goes rule c turn d w full = by (hard_room c d w) refl
  where
    by : (room : Bool) → hard_room c d w ≡ room → HasEvent (allocation_at rule c turn compacted d w)
    by true is =
        (placed_event c turn d w, ap (λ (t : Bool). cond t (Some (placed_event c turn d w)) (cond (is_full_allowed c.geometry d.plain w) (Some (full_event turn)) None)) is)
    by false is = (
      full_event turn,
      ap (λ (t : Bool). cond t (Some (placed_event c turn d w)) (cond (is_full_allowed c.geometry d.plain w) (Some (full_event turn)) None)) is
          ∙ ap (λ (t : Bool). cond t (Some (full_event turn)) None) (full is),
    )

own-goes : (rule : Rule) (c : Config) (turn : Turn) (b : Board) (dead : List Name) (packed : List Packed) → IsOccupiedByObjects c b → IsGlobal c b dead packed
    → IsTrue (is_gc turn.row.op) ⊎ IsTrue (lacks_room c turn b) → HasEvent (own_at rule c turn compacted (after_global c b dead packed))
own-goes rule c turn b dead packed h g why = by (want_of c.geometry turn.row.op) why
  where
    by : (want : Option Want) → IsTrue (is_gc turn.row.op) ⊎ IsTrue (lacks_room_for c b want) → HasEvent (own_for rule c turn compacted (after_global c b dead packed) want)
    by None (inl gc) = (own_event turn (after_global c b dead packed) None, ap (λ (t : Bool). cond t (Some (own_event turn (after_global c b dead packed) None)) None) gc)
    by None (inr lacks) = absurd (false≢true lacks)
    by (Some w) why = allocation-goes rule c turn (after_global c b dead packed) w (full-after c b dead packed w h g)

pub run-goes-on : (rule : Rule) (c : Config) (rows : List Row) (entries : List Entry) (turn : Turn) (stage : Stage) (dead : List Name) (packed : List Packed)
    → IsShape c.geometry → AllByRecursion (IsRow c.geometry) rows → IsRun rule c rows entries → IsLegal rule c turn stage (board_of c entries) (global dead packed)
    → HasEvent (own_at rule c turn compacted (after_global c (board_of c entries) dead packed))
run-goes-on rule c rows entries turn stage dead packed shape in_range run = by stage
  where
    h : IsOccupiedByObjects c (board_of c entries)
    h = run-occupied rule c rows entries shape in_range run

    by : (stage : Stage) → IsLegal rule c turn stage (board_of c entries) (global dead packed) → HasEvent (own_at rule c turn compacted (after_global c (board_of c entries) dead packed))
    by (opened noted) le =
        own-goes rule c turn (board_of c entries) dead packed h le.1
        (elim (or_cases (rule.takes_gc && is_gc turn.row.op) (rule.compacts_at_once && lacks_room c turn (board_of c entries)) le.0) [
          | inl asked ↦ inl (and_parts rule.takes_gc (is_gc turn.row.op) asked).1
          | inr lacks ↦ inr (and_parts rule.compacts_at_once (lacks_room c turn (board_of c entries)) lacks).1
        ])
    by marking le = absurd le
    by ending le = absurd le
    by collected le = own-goes rule c turn (board_of c entries) dead packed h le.1 (inr le.0)
    by compacted le = absurd le
