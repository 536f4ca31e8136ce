-- A whole run is cut into its pieces in one way: each ends with its row's event.
use Rattle.std.proofs.Common.{◌≡◌, ◌+◌, ℕ, List, [], ◌∷◌, ◌++◌, Bool, true, refl, ap, sym, subst, ◌∙◌}
use Rattle.std.specs.List.{AllByRecursion}
use Rattle.std.proofs.lemmas.Bool.{true≢false}
use Rattle.std.proofs.lemmas.List.{append_cancel_left}
use Rattle.bal_rules.proofs.Lemmas.{path-executes, thread-of}
use Rattle.bal_model.specs.declared.config.Config.{Config}
use Rattle.bal_model.specs.declared.row.Row.{Row}
use Rattle.bal_rules.specs.After.{after}
use Rattle.bal_rules.specs.Board.{Board}
use Rattle.bal_model.specs.Entries.{Entry, row, note, partial, begin, mark, end, global, executed}
use Rattle.bal_rules.specs.Interim.{Rule}
use Rattle.bal_rules.specs.Path.{Turn, Stage, opened, IsPathFrom, next_stage}
use Rattle.bal_rules.specs.Run.{Piece, MayComeNext, ArePieces, events_of, done_by, board_of}

-- the events up to the first row event, and its thread
to_row : List Entry → List Entry
to_row [] = []
to_row (row t k o r p ∷ es) = row t k o r p ∷ []
to_row (note q card holder slot ∷ es) = note q card holder slot ∷ to_row es
to_row (partial chosen scans kept aborts ∷ es) = partial chosen scans kept aborts ∷ to_row es
to_row (begin ∷ es) = begin ∷ to_row es
to_row (mark names ∷ es) = mark names ∷ to_row es
to_row (end dead ∷ es) = end dead ∷ to_row es
to_row (global dead packed ∷ es) = global dead packed ∷ to_row es

thread_of_first : List Row → ℕ
thread_of_first [] = 0
thread_of_first (r ∷ rows) = r.thread

-- a whole path is the events up to the first row event, whatever comes after it
path-ends : (rule : Rule) (c : Config) (turn : Turn) (rest es : List Entry) (stage : Stage) (b : Board) → IsPathFrom rule c turn stage b true es → to_row (es ++ rest) ≡ es
unfolding to_row
path-ends rule c turn rest [] stage b h = absurd (true≢false h)
path-ends rule c turn rest (row t k o r p ∷ es) stage b h = ap (λ (es : List Entry). row t k o r p ∷ es) (sym h.2)
path-ends rule c turn rest (note q card x i ∷ es) stage b h =
    let e = note q card x i in
    ap (λ (es : List Entry). e ∷ es) (path-ends rule c turn rest es (next_stage rule c (after c b e) stage e) (after c b e) h.1)
path-ends rule c turn rest (partial chosen scans kept aborts ∷ es) stage b h =
    let e = partial chosen scans kept aborts in
    ap (λ (es : List Entry). e ∷ es) (path-ends rule c turn rest es (next_stage rule c (after c b e) stage e) (after c b e) h.1)
path-ends rule c turn rest (begin ∷ es) stage b h = ap (λ (es : List Entry). begin ∷ es) (path-ends rule c turn rest es (next_stage rule c (after c b begin) stage begin) (after c b begin) h.1)
path-ends rule c turn rest (mark names ∷ es) stage b h =
    let e = mark names in
    ap (λ (es : List Entry). e ∷ es) (path-ends rule c turn rest es (next_stage rule c (after c b e) stage e) (after c b e) h.1)
path-ends rule c turn rest (end dead ∷ es) stage b h =
    let e = end dead in
    ap (λ (es : List Entry). e ∷ es) (path-ends rule c turn rest es (next_stage rule c (after c b e) stage e) (after c b e) h.1)
path-ends rule c turn rest (global dead packed ∷ es) stage b h =
    let e = global dead packed in
    ap (λ (es : List Entry). e ∷ es) (path-ends rule c turn rest es (next_stage rule c (after c b e) stage e) (after c b e) h.1)

-- what a whole piece tells, whatever comes after it
record IsWholePiece (p : Piece) : Type 0 where
  whole : p.whole ≡ true
  ends : (rest : List Entry) → to_row (p.events ++ rest) ≡ p.events
  thread : thread_of_first (executed p.events) ≡ p.thread

whole-piece : (rule : Rule) (c : Config) (rows : List Row) (before : List Entry) (p : Piece) → MayComeNext rule c rows before p → p.whole ≡ true → IsWholePiece p
unfolding thread_of_first
whole-piece rule c rows before p next whole =
    let turn : Turn = record { row = next.row; number = done_by p.thread before + 1 } in
    let path = subst (λ (w : Bool). IsPathFrom rule c turn (opened []) (board_of c before) w p.events) whole next.path in
    record {
      whole = whole;
      ends = λ rest. path-ends rule c turn rest p.events (opened []) (board_of c before) path;
      thread = ap thread_of_first (path-executes rule c turn p.events (opened []) (board_of c before) path) ∙ thread-of p.thread rows (done_by p.thread before) next.row next.next;
    }

-- two whole pieces that begin the same events are one
same-piece : (p q : Piece) (rest more : List Entry) → IsWholePiece p → IsWholePiece q → p.events ++ rest ≡ q.events ++ more → p ≡ q
same-piece p q rest more hp hq h =
    let events : p.events ≡ q.events = sym (hp.ends rest) ∙ ap to_row h ∙ hq.ends more in
    let thread : p.thread ≡ q.thread = sym hp.thread ∙ ap (λ (es : List Entry). thread_of_first (executed es)) events ∙ hq.thread in
    let whole : p.whole ≡ q.whole = hp.whole ∙ sym hq.whole in
    let one : ◌≡◌ {A = Piece} (record { thread = p.thread; whole = p.whole; events = p.events }) (record { thread = q.thread; whole = p.whole; events = p.events }) =
    ap (λ (t : ℕ). record { thread = t; whole = p.whole; events = p.events }) thread in
    let two : ◌≡◌ {A = Piece} (record { thread = q.thread; whole = p.whole; events = p.events }) (record { thread = q.thread; whole = q.whole; events = p.events }) =
    ap (λ (w : Bool). record { thread = q.thread; whole = w; events = p.events }) whole in
    let three : ◌≡◌ {A = Piece} (record { thread = q.thread; whole = q.whole; events = p.events }) (record { thread = q.thread; whole = q.whole; events = q.events }) =
    ap (λ (es : List Entry). record { thread = q.thread; whole = q.whole; events = es }) events in
    one ∙ two ∙ three

-- a whole piece has an event
not-empty : (p : Piece) (rest : List Entry) (rows : List Row) (r : Row) → executed p.events ≡ r ∷ rows → p.events ++ rest ≡ [] → ⊥
not-empty p rest rows r h none = by p.events h none
  where
    by : (es : List Entry) → executed es ≡ r ∷ rows → es ++ rest ≡ [] → ⊥
    by [] h none = cc
    by (e ∷ es) h none = cc

whole-not-empty : (rule : Rule) (c : Config) (rows : List Row) (before : List Entry) (p : Piece) (rest : List Entry) → MayComeNext rule c rows before p → p.whole ≡ true → p.events ++ rest ≡ [] → ⊥
whole-not-empty rule c rows before p rest next whole none =
    let turn : Turn = record { row = next.row; number = done_by p.thread before + 1 } in
    let path = subst (λ (w : Bool). IsPathFrom rule c turn (opened []) (board_of c before) w p.events) whole next.path in
    not-empty p rest [] next.row (path-executes rule c turn p.events (opened []) (board_of c before) path) none

-- whole pieces with the same events are the same
pub one-cut : (rule : Rule) (c : Config) (rows : List Row) (before : List Entry) (one other : List Piece)
    → ArePieces rule c rows before one → AllByRecursion (λ (p : Piece). p.whole ≡ true) one
    → ArePieces rule c rows before other → AllByRecursion (λ (p : Piece). p.whole ≡ true) other
    → events_of one ≡ events_of other → one ≡ other
one-cut rule c rows before [] [] h w k v e = refl
one-cut rule c rows before [] (q ∷ qs) h w k v e = absurd (whole-not-empty rule c rows before q (events_of qs) k.0 v.0 (sym e))
one-cut rule c rows before (p ∷ ps) [] h w k v e = absurd (whole-not-empty rule c rows before p (events_of ps) h.0 w.0 e)
one-cut rule c rows before (p ∷ ps) (q ∷ qs) h w k v e =
    let here : p ≡ q = same-piece p q (events_of ps) (events_of qs) (whole-piece rule c rows before p h.0 w.0) (whole-piece rule c rows before q k.0 v.0) e in
    let events : p.events ≡ q.events = ap (λ (p : Piece). p.events) here in
    let rest : events_of ps ≡ events_of qs = append_cancel_left q.events (events_of ps) (events_of qs) (ap (λ (es : List Entry). es ++ events_of ps) (sym events) ∙ e) in
    let later = one-cut rule c rows (before ++ q.events) ps qs (subst (λ (es : List Entry). ArePieces rule c rows (before ++ es) ps) events h.1) w.1 k.1 v.1 rest in
    ap (λ (x : Piece). x ∷ ps) here ∙ ap (λ (xs : List Piece). q ∷ xs) later
