-- Whether a whole journal is a run as `replay` writes it, by a test that cuts it into paths.
use Rattle.std.proofs.Common.{◌≡◌, ◌+◌, List, [], ◌∷◌, ◌++◌, ◌&&◌, Bool, true, false, Option, Some, None, length, take, drop, refl, ap, sym, subst, ◌∙◌, append_assoc}
use Rattle.std.specs.Prelude.{slice_get}
use Rattle.std.specs.List.{AllByRecursion}
use Rattle.bal_model.specs.declared.config.Config.{Config}
use Rattle.bal_model.specs.declared.row.Row.{Row}
use Rattle.bal_rules.specs.After.{after}
use Rattle.bal_rules.specs.Board.{Board, opening}
use Rattle.bal_model.specs.Entries.{Entry, row, note, partial, begin, mark, end, global, executed}
use Rattle.bal_rules.specs.Interim.{Rule}
use Rattle.bal_rules.specs.Path.{Stage, opened, Turn, IsPathFrom, own_at, next_stage}
use Rattle.bal_rules.specs.Run.{Piece, MayComeNext, ArePieces, events_of, rows_of, done_by, board_of}
use Rattle.bal_rules.proofs.Lemmas.{board_of-more}
use Rattle.bal_laws.specs.Replay.{IsReplay}
use Rattle.bal_laws.proofs.Deciders.{proof_of, equal, options}
use Rattle.bal_laws.proofs.DecidersWords.{row_equality, is_row}
use Rattle.bal_laws.proofs.DecidersPath.{is_legal}

-- The test. It goes over the events with the rows that are still to come, those events before, the board and the stage.

-- a row's turn after some events
abbrev pub turn_after : List Entry → Row → Turn
turn_after before r = record { row = r; number = done_by r.thread before + 1 }

-- the row is its thread's next one
abbrev pub is_next : List Row → List Entry → Row → Bool
is_next rows before r = (options row_equality).same (slice_get (rows_of r.thread rows) (done_by r.thread before)) (Some r)

-- the first of the rows to come, where there is one, is its thread's next one
abbrev pub is_next_first : List Row → List Entry → List Row → Bool
is_next_first rows before [] = true
is_next_first rows before (r ∷ rest) = is_next rows before r

abbrev pub first_turn : List Entry → List Row → Option Turn
first_turn before [] = None
first_turn before (r ∷ rest) = Some (turn_after before r)

module _ (rule : Rule) where
  abbrev pub is_cut : Config → List Row → List Row → Option Turn → List Entry → Board → Stage → List Entry → Bool
  is_cut c rows rest None before b stage [] = true
  is_cut c rows rest None before b stage (e ∷ es) = false
  is_cut c rows rest (Some turn) before b stage [] = false
  is_cut c rows rest (Some turn) before b stage (row t k o r p ∷ es) =
      let more = before ++ row t k o r p ∷ [] in
      (is_row t k o r p (own_at rule c turn stage b)).test
      && (is_next_first rows more rest && is_cut c rows (drop 1 rest) (first_turn more rest) more (after c b (row t k o r p)) (opened []) es)
  is_cut c rows rest (Some turn) before b stage (e ∷ es) =
      let next = after c b e in
      (is_legal rule c turn stage b e).test && is_cut c rows rest (Some turn) (before ++ e ∷ []) next (next_stage rule c next stage e) es

  abbrev pub is_whole_run : Config → List Row → List Entry → Bool
  is_whole_run c rows entries = is_next_first rows [] rows && is_cut c rows (drop 1 rows) (first_turn [] rows) [] (opening c) (opened []) entries

  -- What it tells.

  and-parts : (x y : Bool) → (x && y) ≡ true → (x ≡ true) × (y ≡ true)
  and-parts true y h = (refl, h)
  and-parts false y h = cc

  -- whole paths are these events
  record Onward (c : Config) (rows : List Row) (before : List Entry) (es : List Entry) : Type 0 where
    pieces : List Piece
    next : ArePieces rule c rows before pieces
    whole : AllByRecursion (λ (p : Piece). p.whole ≡ true) pieces
    cut : es ≡ events_of pieces

  -- the rest of a path, and whole paths after it, are these events
  record Rest (c : Config) (rows : List Row) (turn : Turn) (before : List Entry) (b : Board) (stage : Stage) (es : List Entry) : Type 0 where
    own : List Entry
    path : IsPathFrom rule c turn stage b true own
    onward : List Piece
    next : ArePieces rule c rows (before ++ own) onward
    all_whole : AllByRecursion (λ (p : Piece). p.whole ≡ true) onward
    cut : es ≡ own ++ events_of onward

  abbrev Result : Config → List Row → Option Turn → List Entry → Board → Stage → List Entry → Type 0
  Result c rows None before b stage es = es ≡ []
  Result c rows (Some turn) before b stage es = Rest c rows turn before b stage es

  onward-from : (c : Config) (rows rest : List Row) (before es : List Entry) → is_next_first rows before rest ≡ true
      → Result c rows (first_turn before rest) before (board_of c before) (opened []) es → Onward c rows before es
  onward-from c rows [] before es h r = record { pieces = []; next = tt; whole = tt; cut = r }
  onward-from c rows (q ∷ rest) before es h r =
      let piece : Piece = record { thread = q.thread; whole = true; events = r.own } in
      let first : MayComeNext rule c rows before piece = record {
        row = q;
        next = proof_of (equal (options row_equality) (slice_get (rows_of q.thread rows) (done_by q.thread before)) (Some q)) h;
        path = r.path;
      } in
      record { pieces = piece ∷ r.onward; next = (first, r.next); whole = (refl, r.all_whole); cut = r.cut }

  -- an event before the row's own, before the rest of its path
  earlier : (c : Config) (rows : List Row) (turn : Turn) (before : List Entry) (b b' : Board) (stage stage' : Stage) (e : Entry) (es : List Entry)
      → ((own : List Entry) → IsPathFrom rule c turn stage' b' true own → IsPathFrom rule c turn stage b true (e ∷ own))
      → Rest c rows turn (before ++ e ∷ []) b' stage' es → Rest c rows turn before b stage (e ∷ es)
  earlier c rows turn before b b' stage stage' e es path r = record {
    own = e ∷ r.own;
    path = path r.own r.path;
    onward = r.onward;
    next = subst (λ (front : List Entry). ArePieces rule c rows front r.onward) (append_assoc before (e ∷ []) r.own) r.next;
    all_whole = r.all_whole;
    cut = ap (λ (es : List Entry). e ∷ es) r.cut;
  }

  board-next : (c : Config) (before : List Entry) (b : Board) (e : Entry) → b ≡ board_of c before → after c b e ≡ board_of c (before ++ e ∷ [])
  board-next c before b e h = ap (λ (b : Board). after c b e) h ∙ sym (board_of-more c before e)

  result : (c : Config) (rows rest : List Row) (turn : Option Turn) (before : List Entry) (b : Board) (stage : Stage) (es : List Entry) → b ≡ board_of c before
      → is_cut c rows rest turn before b stage es ≡ true → Result c rows turn before b stage es
  result c rows rest None before b stage [] at h = refl
  result c rows rest None before b stage (e ∷ es) at h = cc
  result c rows rest (Some turn) before b stage [] at h = cc
  result c rows rest (Some turn) before b stage (row t k o r p ∷ es) at h =
      let e : Entry = row t k o r p in
      let more : List Entry = before ++ e ∷ [] in
      let parts = and-parts _ _ h in
      let then = and-parts _ _ parts.1 in
      let here = board-next c before b e at in
      let on : Onward c rows more es = onward-from c rows rest more es then.0
      (subst (λ (b : Board). Result c rows (first_turn more rest) more b (opened []) es) here
      (result c rows (drop 1 rest) (first_turn more rest) more (after c b e) (opened []) es here then.1)) in
      record {
        own = e ∷ [];
        path = (proof_of (is_row t k o r p (own_at rule c turn stage b)) parts.0, refl, refl);
        onward = on.pieces;
        next = on.next;
        all_whole = on.whole;
        cut = ap (λ (es : List Entry). e ∷ es) on.cut;
      }
  result c rows rest (Some turn) before b stage (note q card holder slot ∷ es) at h =
      let e : Entry = note q card holder slot in
      let parts = and-parts _ _ h in
      earlier c rows turn before b (after c b e) stage (next_stage rule c (after c b e) stage e) e es (λ own path. (proof_of (is_legal rule c turn stage b e) parts.0, path))
      (result c rows rest (Some turn) (before ++ e ∷ []) (after c b e) (next_stage rule c (after c b e) stage e) es (board-next c before b e at) parts.1)
  result c rows rest (Some turn) before b stage (partial chosen scans kept aborts ∷ es) at h =
      let e : Entry = partial chosen scans kept aborts in
      let parts = and-parts _ _ h in
      earlier c rows turn before b (after c b e) stage (next_stage rule c (after c b e) stage e) e es (λ own path. (proof_of (is_legal rule c turn stage b e) parts.0, path))
      (result c rows rest (Some turn) (before ++ e ∷ []) (after c b e) (next_stage rule c (after c b e) stage e) es (board-next c before b e at) parts.1)
  result c rows rest (Some turn) before b stage (begin ∷ es) at h =
      let parts = and-parts _ _ h in
      earlier c rows turn before b (after c b begin) stage (next_stage rule c (after c b begin) stage begin) begin es (λ own path. (proof_of (is_legal rule c turn stage b begin) parts.0, path))
      (result c rows rest (Some turn) (before ++ begin ∷ []) (after c b begin) (next_stage rule c (after c b begin) stage begin) es (board-next c before b begin at) parts.1)
  result c rows rest (Some turn) before b stage (mark names ∷ es) at h =
      let e : Entry = mark names in
      let parts = and-parts _ _ h in
      earlier c rows turn before b (after c b e) stage (next_stage rule c (after c b e) stage e) e es (λ own path. (proof_of (is_legal rule c turn stage b e) parts.0, path))
      (result c rows rest (Some turn) (before ++ e ∷ []) (after c b e) (next_stage rule c (after c b e) stage e) es (board-next c before b e at) parts.1)
  result c rows rest (Some turn) before b stage (end dead ∷ es) at h =
      let e : Entry = end dead in
      let parts = and-parts _ _ h in
      earlier c rows turn before b (after c b e) stage (next_stage rule c (after c b e) stage e) e es (λ own path. (proof_of (is_legal rule c turn stage b e) parts.0, path))
      (result c rows rest (Some turn) (before ++ e ∷ []) (after c b e) (next_stage rule c (after c b e) stage e) es (board-next c before b e at) parts.1)
  result c rows rest (Some turn) before b stage (global dead packed ∷ es) at h =
      let e : Entry = global dead packed in
      let parts = and-parts _ _ h in
      earlier c rows turn before b (after c b e) stage (next_stage rule c (after c b e) stage e) e es (λ own path. (proof_of (is_legal rule c turn stage b e) parts.0, path))
      (result c rows rest (Some turn) (before ++ e ∷ []) (after c b e) (next_stage rule c (after c b e) stage e) es (board-next c before b e at) parts.1)

  take-all : (rows : List Row) → take (length rows) rows ≡ rows
  take-all [] = refl
  take-all (r ∷ rows) = ap (λ (rs : List Row). r ∷ rs) (take-all rows)

  -- a journal that passes, and that executes exactly the rows of the trace in their order, is one as `replay` writes it
  pub replay-passes : (c : Config) (rows : List Row) (entries : List Entry) → is_whole_run c rows entries ≡ true → executed entries ≡ rows → IsReplay rule c rows entries
  replay-passes c rows entries h same =
      let parts = and-parts _ _ h in
      let on : Onward c rows [] entries = onward-from c rows rows [] entries parts.0
      (result c rows (drop 1 rows) (first_turn [] rows) [] (opening c) (opened []) entries refl parts.1) in
      record {
        run = record { run = record { pieces = on.pieces; each_next = on.next; cut = on.cut }; whole = on.whole };
        complete = λ t. ap (λ (rs : List Row). length (rows_of t rs)) same;
        in_order = subst (λ (rs : List Row). executed entries ≡ take (length (executed entries)) rs) same (sym (take-all (executed entries)));
      }
