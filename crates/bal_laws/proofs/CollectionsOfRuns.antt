-- Where an event stands in a run: what stands before it is a run itself, and the event is legal on the board that it left.
use Rattle.std.proofs.Common.{◌≡◌, ◌⊎◌, ◌+◌, ℕ, inl, inr, Bool, false, List, [], ◌∷◌, ◌++◌, refl, ap, sym, subst, ◌∙◌, append_assoc}
use Rattle.std.proofs.lemmas.List.{append-nil}
use Rattle.std.proofs.lemmas.List.Sums.{fold-append}
use Rattle.bal_model.specs.declared.config.Config.{Config}
use Rattle.bal_model.specs.declared.event.Kept.{Kept}
use Rattle.bal_model.specs.declared.event.Packed.{Packed}
use Rattle.bal_layout.specs.declared.name.Abort.{Abort}
use Rattle.bal_layout.specs.declared.name.Name.{Name}
use Rattle.bal_model.specs.declared.row.Row.{Row}
use Rattle.bal_rules.specs.After.{after, after_all}
use Rattle.bal_rules.specs.Board.{Board, opening}
use Rattle.bal_model.specs.Entries.{Entry, row, note, partial, begin, mark, end, global}
use Rattle.bal_rules.specs.GlobalEvents.{IsGlobal}
use Rattle.bal_rules.specs.Interim.{Rule}
use Rattle.bal_rules.specs.MarkEvents.{IsEnd}
use Rattle.bal_rules.specs.PartialEvents.{IsPartial}
use Rattle.bal_rules.specs.Path.{Turn, Stage, opened, marking, ending, collected, compacted, IsPathFrom, next_stage}
use Rattle.bal_rules.specs.Run.{Piece, ArePieces, events_of, IsRun, board_of, done_by}
use Rattle.bal_rules.proofs.Lemmas.{not-empty}

-- of a list in two parts an item stands in the second or in the first
in-parts : (xs ys front : List Entry) (e : Entry) (behind : List Entry) → xs ++ ys ≡ front ++ e ∷ behind
    → ((rest : List Entry) × (front ≡ xs ++ rest) × (ys ≡ rest ++ e ∷ behind)) ⊎ ((rest : List Entry) × (xs ≡ front ++ e ∷ rest))
in-parts [] ys front e behind h = inl (front, refl, h)
in-parts (x ∷ xs) ys [] e behind h = let same : x ≡ e = cc in inr (xs, ap (λ (y : Entry). y ∷ xs) same)
in-parts (x ∷ xs) ys (f ∷ front) e behind h =
    let same : x ≡ f = cc in
    let more : xs ++ ys ≡ front ++ e ∷ behind = cc in
    elim (in-parts xs ys front e behind more) [
      | inl second ↦ (let rest = second.0 in let before : front ≡ xs ++ rest = second.1 in inl (rest, (cc), second.2))
      | inr first ↦ (let rest = first.0 in let before : xs ≡ front ++ e ∷ rest = first.1 in inr (rest, (cc)))
    ]

-- a path up to one of its events is a broken path, and goes on from there
path-cut : (rule : Rule) (c : Config) (turn : Turn) (whole : Bool) (front : List Entry) (e : Entry) (behind : List Entry) (stage : Stage) (b : Board)
    → IsPathFrom rule c turn stage b whole (front ++ e ∷ behind)
    → IsPathFrom rule c turn stage b false front × ((later : Stage) × IsPathFrom rule c turn later (after_all c b front) whole (e ∷ behind))
path-cut rule c turn whole [] e behind stage b path = (refl, (stage, path))
path-cut rule c turn whole (row t k o r p ∷ front) e behind stage b path = absurd (not-empty front e behind path.2)
path-cut rule c turn whole (note q card holder slot ∷ front) e behind stage b path =
    let this = note q card holder slot in
    let rest = path-cut rule c turn whole front e behind (next_stage rule c (after c b this) stage this) (after c b this) path.1 in ((path.0, rest.0), rest.1)
path-cut rule c turn whole (partial chosen scans kept aborts ∷ front) e behind stage b path =
    let this = partial chosen scans kept aborts in
    let rest = path-cut rule c turn whole front e behind (next_stage rule c (after c b this) stage this) (after c b this) path.1 in ((path.0, rest.0), rest.1)
path-cut rule c turn whole (begin ∷ front) e behind stage b path =
    let rest = path-cut rule c turn whole front e behind (next_stage rule c (after c b begin) stage begin) (after c b begin) path.1 in ((path.0, rest.0), rest.1)
path-cut rule c turn whole (mark names ∷ front) e behind stage b path =
    let this = mark names in
    let rest = path-cut rule c turn whole front e behind (next_stage rule c (after c b this) stage this) (after c b this) path.1 in ((path.0, rest.0), rest.1)
path-cut rule c turn whole (end dead ∷ front) e behind stage b path =
    let this = end dead in
    let rest = path-cut rule c turn whole front e behind (next_stage rule c (after c b this) stage this) (after c b this) path.1 in ((path.0, rest.0), rest.1)
path-cut rule c turn whole (global dead packed ∷ front) e behind stage b path =
    let this = global dead packed in
    let rest = path-cut rule c turn whole front e behind (next_stage rule c (after c b this) stage this) (after c b this) path.1 in ((path.0, rest.0), rest.1)

-- after `done` come pieces with the events `front`, and then the event on its path
record IsReached (rule : Rule) (c : Config) (rows : List Row) (done front : List Entry) (e : Entry) : Type 0 where
  pieces : List Piece
  each_next : ArePieces rule c rows done pieces
  cut : front ≡ events_of pieces
  turn : Turn
  stage : Stage
  whole : Bool
  behind : List Entry
  path : IsPathFrom rule c turn stage (board_of c (done ++ front)) whole (e ∷ behind)

pieces-cut : (rule : Rule) (c : Config) (rows : List Row) (done : List Entry) (pieces : List Piece) (front : List Entry) (e : Entry) (behind : List Entry)
    → ArePieces rule c rows done pieces → events_of pieces ≡ front ++ e ∷ behind → IsReached rule c rows done front e
pieces-cut rule c rows done [] front e behind each h = absurd (not-empty front e behind (sym h))
pieces-cut rule c rows done (p ∷ ps) front e behind each h = elim (in-parts p.events (events_of ps) front e behind h) [
  | inl second ↦ (
      let later = pieces-cut rule c rows (done ++ p.events) ps second.0 e behind each.1 second.2 in
      let same : (done ++ p.events) ++ second.0 ≡ done ++ front = append_assoc done p.events second.0 ∙ ap (λ (es : List Entry). done ++ es) (sym second.1) in
      record {
        pieces = p ∷ later.pieces;
        each_next = (each.0, later.each_next);
        cut = second.1 ∙ ap (λ (es : List Entry). p.events ++ es) later.cut;
        turn = later.turn;
        stage = later.stage;
        whole = later.whole;
        behind = later.behind;
        path = subst (λ (es : List Entry). IsPathFrom rule c later.turn later.stage (board_of c es) later.whole (e ∷ later.behind)) same later.path;
      }
      )
  | inr first ↦ (
      let next = each.0 in
      let turn : Turn = record { row = next.row; number = done_by p.thread done + 1 } in
      let parts = path-cut rule c turn p.whole front e first.0 (opened []) (board_of c done)
      (subst (λ (es : List Entry). IsPathFrom rule c turn (opened []) (board_of c done) p.whole es) first.1 next.path) in
      record {
        pieces = record { thread = p.thread; whole = false; events = front } ∷ [];
        each_next = (record { row = next.row; next = next.next; path = parts.0 }, tt);
        cut = sym (append-nil front);
        turn = turn;
        stage = parts.1.0;
        whole = p.whole;
        behind = first.0;
        path = subst (λ (b : Board). IsPathFrom rule c turn parts.1.0 b p.whole (e ∷ first.0)) (sym (fold-append (after c) (opening c) done front)) parts.1.1;
      }
      )
]

run-cut : (rule : Rule) (c : Config) (rows : List Row) (before : List Entry) (e : Entry) (behind : List Entry) → IsRun rule c rows (before ++ e ∷ behind) → IsReached rule c rows [] before e
run-cut rule c rows before e behind run = pieces-cut rule c rows [] run.pieces before e behind run.each_next (sym run.cut)

-- what stands before an event of a run is a run
pub run-before : (rule : Rule) (c : Config) (rows : List Row) (before : List Entry) (e : Entry) (behind : List Entry) → IsRun rule c rows (before ++ e ∷ behind) → IsRun rule c rows before
run-before rule c rows before e behind run =
    let here = run-cut rule c rows before e behind run in
    record { pieces = here.pieces; each_next = here.each_next; cut = here.cut }

-- a partial collection in a run is one of the board that the events before it left
pub partial-in-run : (rule : Rule) (c : Config) (rows : List Row) (before : List Entry) (chosen : List ℕ) (scans : ℕ) (kept : List Kept) (aborts : List Abort) (behind : List Entry)
    → IsRun rule c rows (before ++ partial chosen scans kept aborts ∷ behind) → IsPartial c (board_of c before) chosen scans kept
partial-in-run rule c rows before chosen scans kept aborts behind run =
    let here = run-cut rule c rows before (partial chosen scans kept aborts) behind run in by here.turn here.stage here.whole here.behind here.path
  where
    by : (turn : Turn) (stage : Stage) (whole : Bool) (rest : List Entry) → IsPathFrom rule c turn stage (board_of c before) whole (partial chosen scans kept aborts ∷ rest) → IsPartial c (board_of c before) chosen scans kept
    by turn (opened noted) whole rest path = path.0.1.partial
    by turn marking whole rest path = absurd path.0
    by turn ending whole rest path = absurd path.0
    by turn collected whole rest path = absurd path.0
    by turn compacted whole rest path = absurd path.0

-- and so is a global one
pub global-in-run : (rule : Rule) (c : Config) (rows : List Row) (before : List Entry) (dead : List Name) (packed : List Packed) (behind : List Entry)
    → IsRun rule c rows (before ++ global dead packed ∷ behind) → IsGlobal c (board_of c before) dead packed
global-in-run rule c rows before dead packed behind run =
    let here = run-cut rule c rows before (global dead packed) behind run in by here.turn here.stage here.whole here.behind here.path
  where
    by : (turn : Turn) (stage : Stage) (whole : Bool) (rest : List Entry) → IsPathFrom rule c turn stage (board_of c before) whole (global dead packed ∷ rest) → IsGlobal c (board_of c before) dead packed
    by turn (opened noted) whole rest path = path.0.1
    by turn marking whole rest path = absurd path.0
    by turn ending whole rest path = absurd path.0
    by turn collected whole rest path = path.0.1
    by turn compacted whole rest path = absurd path.0

-- and the end of a mark cycle
pub end-in-run : (rule : Rule) (c : Config) (rows : List Row) (before : List Entry) (dead : List Name) (behind : List Entry)
    → IsRun rule c rows (before ++ end dead ∷ behind) → IsEnd (board_of c before) dead
end-in-run rule c rows before dead behind run =
    let here = run-cut rule c rows before (end dead) behind run in by here.turn here.stage here.whole here.behind here.path
  where
    by : (turn : Turn) (stage : Stage) (whole : Bool) (rest : List Entry) → IsPathFrom rule c turn stage (board_of c before) whole (end dead ∷ rest) → IsEnd (board_of c before) dead
    by turn (opened noted) whole rest path = absurd path.0
    by turn marking whole rest path = absurd path.0
    by turn ending whole rest path = path.0
    by turn collected whole rest path = absurd path.0
    by turn compacted whole rest path = absurd path.0
