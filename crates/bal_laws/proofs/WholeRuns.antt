-- Whole runs of the program that makes no collection. In file order each event is its row's own event, on the board
-- that those before it left, so a file leaves no choice.
use Rattle.std.proofs.Common.{◌≡◌, ◌<◌, ◌≤◌, ◌+◌, ℕ, suc, List, [], ◌∷◌, ◌++◌, Bool, true, Some, length, take, get_or, refl, ap, sym, subst, ◌∙◌, append_assoc, arith}
use Rattle.std.specs.Prelude.{slice_get, ⊤}
use Rattle.std.specs.List.{AllByRecursion}
use Rattle.std.proofs.lemmas.Bool.{false≢true}
use Rattle.std.proofs.lemmas.List.{get_or-take, get_or_at, length-append, length-take}
use Rattle.std.proofs.lemmas.Option.{slice_get-get_or, same_Some}
use Rattle.bal_model.specs.declared.config.Config.{Config}
use Rattle.bal_model.specs.declared.row.Row.{Row}
use Rattle.bal_rules.specs.Board.{Board}
use Rattle.bal_model.specs.Entries.{Entry, row, note, partial, begin, mark, end, global, executed}
use Rattle.bal_rules.specs.Interim.{placing}
use Rattle.bal_rules.specs.Path.{Turn, opened, own_at, IsPath}
use Rattle.bal_rules.specs.Run.{Piece, MayComeNext, ArePieces, events_of, IsWholeRun, IsInFileOrder, done_by, board_of}
use Rattle.bal_laws.proofs.RowOrder.{of-turn}
use Rattle.bal_rules.proofs.Lemmas.{executed-append, thread-of}

-- a row's turn after some events
abbrev turn_after : List Entry → Row → Turn
turn_after before r = record { row = r; number = done_by r.thread before + 1 }

-- the event is the own event of the next row of the file
record IsOwn (c : Config) (rows : List Row) (before : List Entry) (e : Entry) : Type 0 where
  pub row : Row
  pub next : slice_get rows (length (executed before)) ≡ Some row
  pub own : own_at placing c (turn_after before row) (opened []) (board_of c before) ≡ Some e

-- and so is each of these, one after another
abbrev AreOwn : Config → List Row → List Entry → List Entry → Type 0
AreOwn c rows before [] = ⊤
AreOwn c rows before (e ∷ es) = IsOwn c rows before e × AreOwn c rows (before ++ e ∷ []) es

-- What a row's own event tells.

-- it executes the row
executed-own : (c : Config) (turn : Turn) (b : Board) (e : Entry) (es : List Entry) → own_at placing c turn (opened []) b ≡ Some e → executed (e ∷ es) ≡ turn.row ∷ executed es
executed-own c turn b e es h = executed-append (e ∷ []) es ∙ ap (λ (rs : List Row). rs ++ executed es) (of-turn placing c turn (opened []) b e h).executes

-- a whole path is the row's own event alone
whole_path : (c : Config) (turn : Turn) (b : Board) (es : List Entry) → IsPath placing c turn b true es → (e : Entry) × (es ≡ e ∷ []) × (own_at placing c turn (opened []) b ≡ Some e)
whole_path c turn b [] h = cc
whole_path c turn b (row t k o r p ∷ es) h = (row t k o r p, ap (λ (es : List Entry). row t k o r p ∷ es) h.2, h.0)
whole_path c turn b (note q card holder slot ∷ es) h = absurd (false≢true h.0.0)
whole_path c turn b (partial chosen scans kept aborts ∷ es) h = absurd (false≢true h.0.0)
whole_path c turn b (begin ∷ es) h = absurd h.0
whole_path c turn b (mark names ∷ es) h = absurd h.0
whole_path c turn b (end dead ∷ es) h = absurd h.0
whole_path c turn b (global dead packed ∷ es) h = absurd (false≢true h.0.0)

-- Where a row stands in the file.

-- what stands after a front of a list is the item at the front's length
next-of : (xs : List Row) (r : Row) (ys rows : List Row) (n : ℕ) → n ≡ length (xs ++ r ∷ ys) → xs ++ r ∷ ys ≡ take n rows → slice_get rows (length xs) ≡ Some r
next-of xs r ys rows n m h =
    let long : length xs < n = omega (arith, length-append xs (r ∷ ys)) in
    let within : n ≤ length rows = omega (arith, length-take n rows, ap length h) in
    slice_get-get_or rows (length xs) r (omega arith)
    ∙ ap Some (sym (get_or-take n rows (length xs) r long) ∙ ap (λ (l : List Row). get_or l (length xs) r) (sym h) ∙ get_or_at xs r ys r (length xs) refl)

-- From pieces to events.

-- a whole piece in file order is the own event of the next row
piece-own : (c : Config) (rows : List Row) (before rest : List Entry) (piece : Piece) → MayComeNext placing c rows before piece → piece.whole ≡ true
    → IsInFileOrder rows (before ++ (piece.events ++ rest)) → (e : Entry) × (piece.events ≡ e ∷ []) × IsOwn c rows before e
piece-own c rows before rest piece next w order =
    let turn : Turn = record { row = next.row; number = done_by piece.thread before + 1 } in
    let b = board_of c before in
    let path = whole_path c turn b piece.events (subst (λ (whole : Bool). IsPath placing c turn b whole piece.events) w next.path) in
    let e = path.0 in
    let mine : next.row.thread ≡ piece.thread = thread-of piece.thread rows (done_by piece.thread before) next.row next.next in
    let done : executed (before ++ (piece.events ++ rest)) ≡ executed before ++ next.row ∷ executed rest =
    executed-append before (piece.events ++ rest) ∙ ap (λ (es : List Entry). executed before ++ executed (es ++ rest)) path.1 ∙ ap (λ (rs : List Row). executed before ++ rs) (executed-own c turn b e rest path.2) in (
      e,
      path.1,
      record {
        row = next.row;
        next = next-of (executed before) next.row (executed rest) rows (length (executed (before ++ (piece.events ++ rest)))) (ap length done) (sym done ∙ order);
        own = subst (λ (t : ℕ). own_at placing c (record { row = next.row; number = done_by t before + 1 }) (opened []) b ≡ Some e) (sym mine) path.2;
      },
    )

-- so are whole pieces
pieces-own : (c : Config) (rows : List Row) (before : List Entry) (pieces : List Piece) → ArePieces placing c rows before pieces → AllByRecursion (λ (p : Piece). p.whole ≡ true) pieces
    → IsInFileOrder rows (before ++ events_of pieces) → AreOwn c rows before (events_of pieces)
pieces-own c rows before [] h w order = tt
pieces-own c rows before (p ∷ ps) h w order =
    let own = piece-own c rows before (events_of ps) p h.0 w.0 order in
    let rest = pieces-own c rows (before ++ p.events) ps h.1 w.1 (subst (IsInFileOrder rows) (sym (append_assoc before p.events (events_of ps))) order) in
    subst (λ (es : List Entry). AreOwn c rows before (es ++ events_of ps)) (sym own.1) (own.2, subst (λ (es : List Entry). AreOwn c rows (before ++ es) (events_of ps)) own.1 rest)

-- and a whole run
run-own : (c : Config) (rows : List Row) (entries : List Entry) → IsWholeRun placing c rows entries → IsInFileOrder rows entries → AreOwn c rows [] entries
run-own c rows entries h order =
    subst (AreOwn c rows []) (sym h.run.cut) (pieces-own c rows [] h.run.pieces h.run.each_next h.whole (subst (IsInFileOrder rows) h.run.cut order))

-- each event executes one row
own-length : (c : Config) (rows : List Row) (before es : List Entry) → AreOwn c rows before es → length (executed es) ≡ length es
own-length c rows before [] h = refl
own-length c rows before (e ∷ es) h =
    ap length (executed-own c (turn_after before h.0.row) (board_of c before) e es h.0.own) ∙ ap suc (own-length c rows (before ++ e ∷ []) es h.1)

-- Two sequences of own events.

-- after the same events there is one own event
own-unique : (c : Config) (rows : List Row) (before : List Entry) (e f : Entry) → IsOwn c rows before e → IsOwn c rows before f → e ≡ f
own-unique c rows before e f he hf =
    let same : he.row ≡ hf.row = same_Some _ _ (sym he.next ∙ hf.next) in
    same_Some e f (sym he.own ∙ ap (λ (r : Row). own_at placing c (turn_after before r) (opened []) (board_of c before)) same ∙ hf.own)

-- as many own events are the same
own-same : (c : Config) (rows : List Row) (before one other : List Entry) → AreOwn c rows before one → AreOwn c rows before other → length one ≡ length other → one ≡ other
own-same c rows before [] [] h k l = refl
own-same c rows before [] (f ∷ fs) h k l = absurd (omega arith)
own-same c rows before (e ∷ es) [] h k l = absurd (omega arith)
own-same c rows before (e ∷ es) (f ∷ fs) h k l =
    let here = own-unique c rows before e f h.0 k.0 in
    let rest = own-same c rows (before ++ f ∷ []) es fs (subst (λ (x : Entry). AreOwn c rows (before ++ x ∷ []) es) here h.1) k.1 (omega arith) in
    ap (λ (x : Entry). x ∷ es) here ∙ ap (λ (xs : List Entry). f ∷ xs) rest

pub one_whole_run : (c : Config) (rows : List Row) (one other : List Entry) → IsWholeRun placing c rows one → IsWholeRun placing c rows other → IsInFileOrder rows one → IsInFileOrder rows other
    → length (executed one) ≡ length (executed other) → one ≡ other
one_whole_run c rows one other h k in_order other_in_order same =
    let mine = run-own c rows one h in_order in
    let others = run-own c rows other k other_in_order in
    own-same c rows [] one other mine others (sym (own-length c rows [] one mine) ∙ same ∙ own-length c rows [] other others)
