-- Whether an event can stand at one place of a journal in any whole run, by a test. In a whole run each path ends with its
-- row's own event, so the stage at each place is known.
use Rattle.std.proofs.Common.{◌≡◌, ℕ, ◌+◌, List, [], ◌∷◌, ◌++◌, Bool, true, false, Some, ◌⊎◌, inl, inr, length, take, refl, ap, sym, subst, ◌∙◌, append_assoc}
use Rattle.std.specs.Prelude.{slice_get, fold}
use Rattle.std.specs.List.{list_any, AllByRecursion}
use Rattle.std.proofs.lemmas.List.Sums.{fold-append}
use Rattle.bal_model.specs.declared.config.Config.{Config}
use Rattle.bal_model.specs.declared.row.Row.{Row}
use Rattle.bal_rules.specs.After.{after}
use Rattle.bal_rules.specs.Board.{Board, opening}
use Rattle.bal_model.specs.Entries.{Entry, row, note, partial, begin, mark, end, global, executed}
use Rattle.bal_rules.specs.Interim.{Rule, whole}
use Rattle.bal_rules.specs.Path.{Stage, opened, Turn, IsPathFrom, next_stage}
use Rattle.bal_rules.specs.Run.{Piece, ArePieces, events_of, IsWholeRun, rows_of, done_by, board_of}
use Rattle.bal_laws.specs.Refused.{Wrong, IsNotWholeThere}
use Rattle.bal_laws.proofs.Deciders.{equal, options}
use Rattle.bal_laws.proofs.DecidersWords.{row_equality}
use Rattle.bal_laws.proofs.RunTests.{turn_after, is_next}
use Rattle.bal_rules.proofs.Lemmas.{not-empty, thread-of}
use Rattle.bal_laws.proofs.RefusalTests.{IsDue, is_due, next_rows, due-first, executed-same, split, found}

-- The test.

-- the stage after these events, where each path ends with a row's event
abbrev pub stage_along : Rule → Config → Board → Stage → List Entry → Stage
stage_along rule c b stage [] = stage
stage_along rule c b stage (row t k o r p ∷ es) = stage_along rule c (after c b (row t k o r p)) (opened []) es
stage_along rule c b stage (e ∷ es) = let next = after c b e in stage_along rule c next (next_stage rule c next stage e) es

abbrev pub stage_of : Rule → Config → List Entry → Stage
stage_of rule c before = stage_along rule c (opening c) (opened []) before

abbrev pub may_go_on : Rule → Config → List Row → List Entry → Entry → Bool
may_go_on rule c rows before e = list_any (λ r. (is_due rule c (turn_after before r) (stage_of rule c before) (board_of c before) e).test) (next_rows rows before)

-- What a whole run tells of the place.

-- an event in a path: the stage is the one along the events before it, none of which is a row's
record Along (rule : Rule) (c : Config) (turn : Turn) (b : Board) (stage : Stage) (xs : List Entry) (e : Entry) : Type 0 where
  due : IsDue rule c turn (stage_along rule c b stage xs) (fold (after c) b xs) e
  executes_none : executed xs ≡ []

-- after an event that isn't a row's own
record Step (rule : Rule) (c : Config) (turn : Turn) (stage : Stage) (b : Board) (complete : Bool) (e : Entry) (es : List Entry) : Type 0 where
  executes_none : (es : List Entry) → executed (e ∷ es) ≡ executed es
  rest : IsPathFrom rule c turn (next_stage rule c (after c b e) stage e) (after c b e) complete es
  along : (es : List Entry) → stage_along rule c b stage (e ∷ es) ≡ stage_along rule c (after c b e) (next_stage rule c (after c b e) stage e) es

step : (rule : Rule) (c : Config) (turn : Turn) (stage : Stage) (b : Board) (complete : Bool) (e : Entry) (es : List Entry)
    → IsPathFrom rule c turn stage b complete (e ∷ es) → ((es ≡ []) × (stage_along rule c b stage (e ∷ []) ≡ opened [])) ⊎ Step rule c turn stage b complete e es
step rule c turn stage b complete (row t k o r p) es h = inl (h.2, refl)
step rule c turn stage b complete e es h = inr (record { executes_none = λ es. refl; rest = h.1; along = λ es. refl })

along-path : (rule : Rule) (c : Config) (turn : Turn) (stage : Stage) (b : Board) (complete : Bool) (xs : List Entry) (e : Entry) (zs : List Entry)
    → IsPathFrom rule c turn stage b complete (xs ++ e ∷ zs) → Along rule c turn b stage xs e
along-path rule c turn stage b complete [] e zs h = record { due = due-first rule c turn stage b complete e zs h; executes_none = refl }
along-path rule c turn stage b complete (x ∷ xs) e zs h =
    elim (step rule c turn stage b complete x (xs ++ e ∷ zs) h) [
      | inl last ↦ absurd (not-empty xs e zs last.0)
      | inr on ↦
          let rest = along-path rule c turn (next_stage rule c (after c b x) stage x) (after c b x) complete xs e zs on.rest in
          record {
            due = subst (λ (s : Stage). IsDue rule c turn s (fold (after c) (after c b x) xs) e) (sym (on.along xs)) rest.due;
            executes_none = on.executes_none xs ∙ rest.executes_none;
          }
    ]

-- a whole path ends where the next one may begin
path-ends : (rule : Rule) (c : Config) (turn : Turn) (stage : Stage) (b : Board) (es : List Entry) → IsPathFrom rule c turn stage b true es → stage_along rule c b stage es ≡ opened []
path-ends rule c turn stage b [] h = cc
path-ends rule c turn stage b (e ∷ es) h =
    elim (step rule c turn stage b true e es h) [
      | inl last ↦ ap (λ (es : List Entry). stage_along rule c b stage (e ∷ es)) last.0 ∙ last.1
      | inr on ↦ on.along es ∙ path-ends rule c turn (next_stage rule c (after c b e) stage e) (after c b e) es on.rest
    ]

along-append : (rule : Rule) (c : Config) (b : Board) (stage : Stage) (xs ys : List Entry)
    → stage_along rule c b stage (xs ++ ys) ≡ stage_along rule c (fold (after c) b xs) (stage_along rule c b stage xs) ys
along-append rule c b stage [] ys = refl
along-append rule c b stage (row t k o r p ∷ xs) ys = along-append rule c (after c b (row t k o r p)) (opened []) xs ys
along-append rule c b stage (note q card holder slot ∷ xs) ys =
    let next = after c b (note q card holder slot) in along-append rule c next (next_stage rule c next stage (note q card holder slot)) xs ys
along-append rule c b stage (partial chosen scans kept aborts ∷ xs) ys =
    let next = after c b (partial chosen scans kept aborts) in along-append rule c next (next_stage rule c next stage (partial chosen scans kept aborts)) xs ys
along-append rule c b stage (begin ∷ xs) ys = let next = after c b begin in along-append rule c next (next_stage rule c next stage begin) xs ys
along-append rule c b stage (mark names ∷ xs) ys = let next = after c b (mark names) in along-append rule c next (next_stage rule c next stage (mark names)) xs ys
along-append rule c b stage (end dead ∷ xs) ys = let next = after c b (end dead) in along-append rule c next (next_stage rule c next stage (end dead)) xs ys
along-append rule c b stage (global dead packed ∷ xs) ys =
    let next = after c b (global dead packed) in along-append rule c next (next_stage rule c next stage (global dead packed)) xs ys

-- where a path has begun, the stage along the whole journal is that along the path
stage-in : (rule : Rule) (c : Config) (front xs : List Entry) → stage_of rule c front ≡ opened [] → stage_of rule c (front ++ xs) ≡ stage_along rule c (board_of c front) (opened []) xs
stage-in rule c front xs h = along-append rule c (opening c) (opened []) front xs ∙ ap (λ (s : Stage). stage_along rule c (board_of c front) s xs) h

record Place (rule : Rule) (c : Config) (rows : List Row) (before : List Entry) (e : Entry) : Type 0 where
  thread : ℕ
  row : Row
  next : slice_get (rows_of thread rows) (done_by thread before) ≡ Some row
  due : IsDue rule c (record { row = row; number = done_by thread before + 1 }) (stage_of rule c before) (board_of c before) e

in-pieces : (rule : Rule) (c : Config) (rows : List Row) (front : List Entry) (pieces : List Piece) (xs : List Entry) (e : Entry) (ys : List Entry)
    → stage_of rule c front ≡ opened [] → ArePieces rule c rows front pieces → AllByRecursion (λ (p : Piece). p.whole ≡ true) pieces
    → xs ++ e ∷ ys ≡ events_of pieces → Place rule c rows (front ++ xs) e
in-pieces rule c rows front [] xs e ys start h all cut = absurd (not-empty xs e ys cut)
in-pieces rule c rows front (piece ∷ pieces) xs e ys start h all cut =
    let t = piece.thread in
    let n = done_by t front in
    let turn : Turn = record { row = h.0.row; number = n + 1 } in
    elim (split xs e ys piece.events (events_of pieces) cut) [
      | inl f ↦
          let path = subst (λ (es : List Entry). IsPathFrom rule c turn (opened []) (board_of c front) piece.whole es) f.front h.0.path in
          let here = along-path rule c turn (opened []) (board_of c front) piece.whole xs e f.rest path in
          let same : done_by t front ≡ done_by t (front ++ xs) = ap (λ (rs : List Row). length (rows_of t rs)) (sym (executed-same front xs here.executes_none)) in
          let due : IsDue rule c turn (stage_of rule c (front ++ xs)) (board_of c (front ++ xs)) e =
          subst (λ (s : Stage). IsDue rule c turn s (board_of c (front ++ xs)) e) (sym (stage-in rule c front xs start))
          (subst (λ (b : Board). IsDue rule c turn (stage_along rule c (board_of c front) (opened []) xs) b e) (sym (fold-append (after c) (opening c) front xs)) here.due) in
          record {
            thread = t;
            row = h.0.row;
            next = subst (λ (k : ℕ). slice_get (rows_of t rows) k ≡ Some h.0.row) same h.0.next;
            due = subst (λ (k : ℕ). IsDue rule c (record { row = h.0.row; number = k + 1 }) (stage_of rule c (front ++ xs)) (board_of c (front ++ xs)) e) same due;
          }
      | inr b ↦
          let path = subst (λ (w : Bool). IsPathFrom rule c turn (opened []) (board_of c front) w piece.events) all.0 h.0.path in
          let starts : stage_of rule c (front ++ piece.events) ≡ opened [] =
          stage-in rule c front piece.events start ∙ path-ends rule c turn (opened []) (board_of c front) piece.events path in
          subst (λ (before : List Entry). Place rule c rows before e) (append_assoc front piece.events b.between ∙ ap (λ (es : List Entry). front ++ es) (sym b.front))
          (in-pieces rule c rows (front ++ piece.events) pieces b.between e ys starts h.1 all.1 b.back)
    ]

may-go-on : (rule : Rule) (c : Config) (rows : List Row) (before : List Entry) (e : Entry) → Place rule c rows before e → may_go_on rule c rows before e ≡ true
may-go-on rule c rows before e place =
    let r = place.row in
    let mine : place.thread ≡ r.thread = sym (thread-of place.thread rows (done_by place.thread before) r place.next) in
    let next : slice_get (rows_of r.thread rows) (done_by r.thread before) ≡ Some r = subst (λ (t : ℕ). slice_get (rows_of t rows) (done_by t before) ≡ Some r) mine place.next in
    let due : IsDue rule c (turn_after before r) (stage_of rule c before) (board_of c before) e =
    subst (λ (t : ℕ). IsDue rule c (record { row = r; number = done_by t before + 1 }) (stage_of rule c before) (board_of c before) e) mine place.due in
    found (is_next rows before) _ r.thread rows (done_by r.thread before) r next
    ((equal (options row_equality) (slice_get (rows_of r.thread rows) (done_by r.thread before)) (Some r)).decides.1 next)
    ((is_due rule c (turn_after before r) (stage_of rule c before) (board_of c before) e).decides.1 due)

-- where the event cannot go on, the journal is no whole run
not-whole-at : (c : Config) (rows : List Row) (before : List Entry) (e : Entry) (behind : List Entry) → may_go_on whole c rows before e ≡ false
    → IsWholeRun whole c rows (before ++ e ∷ behind) → ⊥
not-whole-at c rows before e behind h run =
    let goes = may-go-on whole c rows before e (in-pieces whole c rows [] run.run.pieces before e behind refl run.run.each_next run.whole run.run.cut) in
    cc

pub not-whole-there : (w : Wrong) → slice_get w.worked.journal w.place ≡ Some w.right
    → may_go_on whole w.worked.config w.worked.rows (take w.place w.worked.journal) w.wrong ≡ false → IsNotWholeThere w
not-whole-there w stands h = record {
  stands = stands;
  refused = λ behind. not-whole-at w.worked.config w.worked.rows (take w.place w.worked.journal) w.wrong behind h;
}
