-- After every run the present objects take what they asked for, and all leaves are theirs.
use Rattle.std.proofs.Common.{◌≡◌, ◌≤◌, List, false, length, refl, ap, sym, subst, ◌∙◌, arith}
use Rattle.std.specs.List.{AllByRecursion}
use Rattle.std.proofs.lemmas.Bool.{false≢true}
use Rattle.bal_layout.specs.Regions.{free_region, is_leaf}
use Rattle.bal_layout.specs.Shape.{IsShape, largest_of}
use Rattle.bal_layout.specs.declared.region_state.RegionState.{RegionState}
use Rattle.bal_model.specs.Entries.{Entry}
use Rattle.bal_model.specs.Plain.{State}
use Rattle.bal_model.specs.Spelling.{IsRow}
use Rattle.bal_model.specs.declared.config.Config.{Config}
use Rattle.bal_model.specs.declared.row.Row.{Row}
use Rattle.bal_rules.specs.Board.{Board, Placed, opening, words_of}
use Rattle.bal_rules.specs.Interim.{Rule}
use Rattle.bal_rules.specs.Occupied.{IsOccupiedByObjects, leaves_asked}
use Rattle.bal_rules.specs.Run.{IsRun, board_of}
use Rattle.bal_rules.specs.Sound.{IsSound}
use Rattle.bal_rules.proofs.BoardsOccupied.{IsAsAsked, IsTaken, legal-taken}
use Rattle.bal_rules.proofs.Collections.{sound-legal}
use Rattle.bal_rules.proofs.Each.{each-at, each-goes, each-replicate}
use Rattle.bal_rules.proofs.RowsOccupied.{own-taken}
use Rattle.bal_rules.proofs.RowsSound.{sound-opening, sound-row}
use Rattle.bal_rules.proofs.RunFacts.{board_of-more}
use Rattle.bal_rules.proofs.RunsInRange.{run-within}
use Rattle.bal_rules.proofs.RunsSound.{graph-legal, journal-keeps, threads-own, turn-has}

taken-opening : (c : Config) → IsTaken c (opening c)
taken-opening c = record {
  asked = tt;
  each_leaf = λ q leaf.
      absurd (false≢true (sym (each-at (λ (r : RegionState). is_leaf r.role ≡ false) (opening c).regions q free_region
      (each-replicate (λ (r : RegionState). is_leaf r.role ≡ false) c.geometry.regions free_region refl) refl) ∙ leaf));
}

-- a sound board of 32 threads whose objects take what they asked for
record IsSoundAndTaken (c : Config) (b : Board) : Type 0 where
  sound : IsSound b
  threads : length b.plain.mutators ≡ 32
  taken : IsTaken c b

run-taken : (rule : Rule) (c : Config) (rows : List Row) (entries : List Entry) → AllByRecursion (IsRow c.geometry) rows → IsRun rule c rows entries → IsSoundAndTaken c (board_of c entries)
run-taken rule c rows entries in_range run =
    journal-keeps rule c rows (λ (es : List Entry). IsSoundAndTaken c (board_of c es))
    (λ turn stage before e h next le.
    let b = board_of c before in
    subst (IsSoundAndTaken c) (sym (board_of-more c before e)) (record {
      sound = sound-legal rule c turn stage b e h.sound le;
      threads = ap (λ (s : State). length s.mutators) (graph-legal rule c turn stage b e le) ∙ h.threads;
      taken = legal-taken rule c turn stage b e h.taken le;
    }))
    (λ turn stage before e h next own.
    let b = board_of c before in
    let is = turn-has (IsRow c.geometry) rows before turn in_range next in
    subst (IsSoundAndTaken c) (sym (board_of-more c before e)) (record {
      sound = sound-row rule c turn stage b e h.sound h.threads is.0 own;
      threads = threads-own rule c turn stage b e own ∙ h.threads;
      taken = own-taken rule c turn stage b e h.sound (omega (arith, is.0, h.threads)) is.1 h.taken own;
    }))
    entries (record { sound = sound-opening c; threads = refl; taken = taken-opening c }) run

pub run-occupied : (rule : Rule) (c : Config) (rows : List Row) (entries : List Entry) → IsShape c.geometry → AllByRecursion (IsRow c.geometry) rows → IsRun rule c rows entries
    → IsOccupiedByObjects c (board_of c entries)
run-occupied rule c rows entries shape in_range run =
    let b = board_of c entries in
    let h = run-taken rule c rows entries in_range run in
    record {
      geometry = shape;
      count = (run-within rule c rows entries (omega (arith, shape.fewest_regions)) run).count;
      apart = h.sound.ascending;
      largest = each-goes (IsAsAsked c b.plain) (λ (p : Placed). words_of c b p.name ≤ largest_of c.geometry) (λ p is. is.words) b.present h.taken.asked;
      leaves = each-goes (IsAsAsked c b.plain) (λ (p : Placed). length p.leaves ≡ leaves_asked c b p.name) (λ p is. is.leaves) b.present h.taken.asked;
      each_leaf = h.taken.each_leaf;
    }
