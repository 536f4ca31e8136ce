-- What holds after every run: what the empty journal has, and each event keeps.
use Rattle.std.proofs.Common.{◌≡◌, ◌<◌, ◌+◌, ◌==◌, ℕ, List, [], ◌∷◌, ◌++◌, Bool, true, Some, None, length, refl, ap, sym, subst, ◌∙◌, append_assoc}
use Rattle.std.specs.Prelude.{slice_get}
use Rattle.std.specs.List.{AllByRecursion}
use Rattle.std.proofs.lemmas.Bool.{eqb-true}
use Rattle.std.proofs.lemmas.List.{append-nil}
use Rattle.std.proofs.lemmas.List.Elements.{All-from_recursion, All-get_or, All-filter, filter_passes}
use Rattle.std.proofs.lemmas.Option.{slice_get_within, get_or_from_slice_get}
use Rattle.bal_rules.proofs.PathFacts.{executed-append, executed-legal, legal-no-row, own-event}
use Rattle.bal_model.specs.declared.config.Config.{Config}
use Rattle.bal_model.specs.declared.row.Reply.TheVariants as reply
use Rattle.bal_model.specs.declared.row.Row.{Row}
use Rattle.bal_rules.specs.After.{after}
use Rattle.bal_rules.specs.Board.{Board, opening}
use Rattle.bal_model.specs.Entries.{Entry, row, note, partial, begin, mark, end, global, executed}
use Rattle.bal_rules.specs.Interim.{Rule}
use Rattle.bal_rules.specs.Path.{Turn, Stage, opened, own_at, IsLegal, IsPathFrom, next_stage}
use Rattle.bal_model.specs.Plain.{State, step}
use Rattle.bal_rules.specs.Room.{spot_for}
use Rattle.bal_rules.specs.Run.{Piece, MayComeNext, ArePieces, events_of, IsRun, rows_of, done_by, board_of}
use Rattle.bal_rules.proofs.RunFacts.{board_of-more}
use Rattle.bal_rules.specs.Sound.{AreOfThreads, IsSound}
use Rattle.bal_rules.proofs.Collections.{sound-legal}
use Rattle.bal_rules.proofs.RowsSound.{sound-opening, sound-row, threads-row}

-- the turn is that of its thread's next row
pub record IsTurn (rows : List Row) (before : List Entry) (turn : Turn) : Type 0 where
  pub next : slice_get (rows_of turn.row.thread rows) (done_by turn.row.thread before) ≡ Some turn.row
  pub number : turn.number ≡ done_by turn.row.thread before + 1

-- a row among those of a thread is that thread's
pub thread-of : (t : ℕ) (rows : List Row) (i : ℕ) (r : Row) → slice_get (rows_of t rows) i ≡ Some r → r.thread ≡ t
thread-of t rows i r h =
    let passes = filter_passes (λ (r : Row). r.thread == t) rows i r (slice_get_within (rows_of t rows) i r h) in
    eqb-true r.thread t (subst (λ (x : Row). (x.thread == t) ≡ true) (get_or_from_slice_get (rows_of t rows) i r r h) passes)

-- a row whose turn it is has what each row of the trace has
pub turn-has : (P : Row → Type 0) (rows : List Row) (before : List Entry) (turn : Turn) → AllByRecursion P rows → IsTurn rows before turn → P turn.row
turn-has P rows before turn each h =
    let t = turn.row.thread in
    let i = done_by t before in
    let all = All-filter (λ (r : Row). r.thread == t) P rows (All-from_recursion P rows each) in
    subst P (get_or_from_slice_get (rows_of t rows) i turn.row turn.row h.next)
    (All-get_or P (rows_of t rows) i turn.row (slice_get_within (rows_of t rows) i turn.row h.next) all)

-- so it belongs to one of the threads
pub thread-below : (rows : List Row) (before : List Entry) (turn : Turn) → AreOfThreads rows → IsTurn rows before turn → turn.row.thread < 32
thread-below rows before turn threads h = turn-has (λ (r : Row). r.thread < 32) rows before turn threads h

-- What holds of the empty journal, and is kept by each legal event and by each row's own event, holds of every run, whole
-- or broken.
module _ (rule : Rule) (c : Config) (rows : List Row) (Q : List Entry → Type 0)
    (legal : (turn : Turn) (stage : Stage) (before : List Entry) (e : Entry) → Q before → IsTurn rows before turn → IsLegal rule c turn stage (board_of c before) e → Q (before ++ e ∷ []))
    (own : (turn : Turn) (stage : Stage) (before : List Entry) (e : Entry) → Q before → IsTurn rows before turn → own_at rule c turn stage (board_of c before) ≡ Some e → Q (before ++ e ∷ [])) where
  -- the turn stays until the row's own event
  turn-stays : (turn : Turn) (stage : Stage) (before : List Entry) (e : Entry) → IsTurn rows before turn → IsLegal rule c turn stage (board_of c before) e → IsTurn rows (before ++ e ∷ []) turn
  turn-stays turn stage before e h le =
      let same : executed (before ++ e ∷ []) ≡ executed before =
      executed-append before (e ∷ []) ∙ ap (λ (rs : List Row). executed before ++ rs) (executed-legal rule c turn stage (board_of c before) e le) ∙ append-nil (executed before) in
      let done : done_by turn.row.thread (before ++ e ∷ []) ≡ done_by turn.row.thread before = ap (λ (rs : List Row). length (rows_of turn.row.thread rs)) same in
      record {
        next = subst (λ (n : ℕ). slice_get (rows_of turn.row.thread rows) n ≡ Some turn.row) (sym done) h.next;
        number = h.number ∙ ap (λ (n : ℕ). n + 1) (sym done);
      }

  -- one event of a path, and what those after it keep
  event-keeps : (turn : Turn) (stage : Stage) (before : List Entry) (b : Board) (whole : Bool) (e : Entry) (es : List Entry) → b ≡ board_of c before → Q before → IsTurn rows before turn
      → IsLegal rule c turn stage b e
      → ((stage : Stage) (before : List Entry) (b : Board) → b ≡ board_of c before → Q before → IsTurn rows before turn → IsPathFrom rule c turn stage b whole es → Q (before ++ es))
      → IsPathFrom rule c turn (next_stage rule c (after c b e) stage e) (after c b e) whole es → Q (before ++ e ∷ es)
  event-keeps turn stage before b whole e es at q h le rest path =
      let here = subst (λ (b : Board). IsLegal rule c turn stage b e) at le in
      let now : after c b e ≡ board_of c (before ++ e ∷ []) = ap (λ (b : Board). after c b e) at ∙ sym (board_of-more c before e) in
      subst Q (append_assoc before (e ∷ []) es)
      (rest (next_stage rule c (after c b e) stage e) (before ++ e ∷ []) (after c b e) now (legal turn stage before e q h here) (turn-stays turn stage before e h here) path)

  path-keeps : (turn : Turn) (whole : Bool) (es : List Entry) (stage : Stage) (before : List Entry) (b : Board) → b ≡ board_of c before → Q before → IsTurn rows before turn
      → IsPathFrom rule c turn stage b whole es → Q (before ++ es)
  path-keeps turn whole [] stage before b at q h path = subst Q (sym (append-nil before)) q
  path-keeps turn whole (row t k o r p ∷ es) stage before b at q h path =
      let e = row t k o r p in
      subst (λ (es : List Entry). Q (before ++ e ∷ es)) (sym path.2) (own turn stage before e q h (subst (λ (b : Board). own_at rule c turn stage b ≡ Some e) at path.0))
  path-keeps turn whole (note q card x i ∷ es) stage before b at held h path = event-keeps turn stage before b whole (note q card x i) es at held h path.0 (path-keeps turn whole es) path.1
  path-keeps turn whole (partial chosen scans kept aborts ∷ es) stage before b at held h path = event-keeps turn stage before b whole (partial chosen scans kept aborts) es at held h path.0 (path-keeps turn whole es) path.1
  path-keeps turn whole (begin ∷ es) stage before b at held h path = event-keeps turn stage before b whole begin es at held h path.0 (path-keeps turn whole es) path.1
  path-keeps turn whole (mark names ∷ es) stage before b at held h path = event-keeps turn stage before b whole (mark names) es at held h path.0 (path-keeps turn whole es) path.1
  path-keeps turn whole (end dead ∷ es) stage before b at held h path = event-keeps turn stage before b whole (end dead) es at held h path.0 (path-keeps turn whole es) path.1
  path-keeps turn whole (global dead packed ∷ es) stage before b at held h path = event-keeps turn stage before b whole (global dead packed) es at held h path.0 (path-keeps turn whole es) path.1

  piece-keeps : (before : List Entry) (piece : Piece) → Q before → MayComeNext rule c rows before piece → Q (before ++ piece.events)
  piece-keeps before piece q next =
      let turn : Turn = record { row = next.row; number = done_by piece.thread before + 1 } in
      let mine : next.row.thread ≡ piece.thread = thread-of piece.thread rows (done_by piece.thread before) next.row next.next in
      let h : IsTurn rows before turn = record {
        next = subst (λ (t : ℕ). slice_get (rows_of t rows) (done_by t before) ≡ Some next.row) (sym mine) next.next;
        number = ap (λ (t : ℕ). done_by t before + 1) (sym mine);
      } in
      path-keeps turn piece.whole piece.events (opened []) before (board_of c before) refl q h next.path

  pieces-keep : (before : List Entry) (pieces : List Piece) → Q before → ArePieces rule c rows before pieces → Q (before ++ events_of pieces)
  pieces-keep before [] q h = subst Q (sym (append-nil before)) q
  pieces-keep before (p ∷ ps) q h =
      subst Q (append_assoc before p.events (events_of ps)) (pieces-keep (before ++ p.events) ps (piece-keeps before p q h.0) h.1)

  pub journal-keeps : (entries : List Entry) → Q [] → IsRun rule c rows entries → Q entries
  journal-keeps entries first run = subst Q (sym run.cut) (pieces-keep [] run.pieces first run.each_next)

-- What holds of the opening board, and is kept by each legal event and by each row's own event, holds of the board after
-- every run, whole or broken.
pub run-keeps : (P : Board → Type 0) (rule : Rule) (c : Config) (rows : List Row) (entries : List Entry)
    → P (opening c)
    → ((turn : Turn) (stage : Stage) (b : Board) (e : Entry) → P b → IsLegal rule c turn stage b e → P (after c b e))
    → ((turn : Turn) (stage : Stage) (b : Board) (e : Entry) → P b → turn.row.thread < 32 → own_at rule c turn stage b ≡ Some e → P (after c b e))
    → AreOfThreads rows → IsRun rule c rows entries → P (board_of c entries)
run-keeps P rule c rows entries first legal own threads run =
    journal-keeps rule c rows (λ (es : List Entry). P (board_of c es))
    (λ turn stage before e q h le. subst P (sym (board_of-more c before e)) (legal turn stage (board_of c before) e q le))
    (λ turn stage before e q h o. subst P (sym (board_of-more c before e)) (own turn stage (board_of c before) e q (thread-below rows before turn threads h) o))
    entries first run

-- Soundness.

-- no event before a row's own one changes the graph
pub graph-legal : (rule : Rule) (c : Config) (turn : Turn) (stage : Stage) (b : Board) (e : Entry) → IsLegal rule c turn stage b e → (after c b e).plain ≡ b.plain
graph-legal rule c turn stage b (row t k o r p) h = absurd (legal-no-row rule c turn stage b t k o r p h)
graph-legal rule c turn stage b e h = refl

-- a row's own event makes no thread
pub threads-own : (rule : Rule) (c : Config) (turn : Turn) (stage : Stage) (b : Board) (e : Entry) → own_at rule c turn stage b ≡ Some e → length (after c b e).plain.mutators ≡ length b.plain.mutators
threads-own rule c turn stage b e own =
    let t = turn.row.thread in
    let o = turn.row.op in
    let r = (step b.plain t o).0 in
    own-event (λ (e : Entry). length (after c b e).plain.mutators ≡ length b.plain.mutators) rule c turn stage b e
    (λ none. threads-row c b t turn.number o r None)
    (λ w asks. threads-row c b t turn.number o r (Some (spot_for c.geometry b.regions b.current w)))
    (λ w asks full. threads-row c b t turn.number o reply.Full None)
    own

-- sound, with the 32 threads
record IsSoundOfThreads (b : Board) : Type 0 where
  pub sound : IsSound b
  pub threads : length b.plain.mutators ≡ 32

-- where the events of collections keep soundness, it holds after every run
pub run-sound_from : ((rule : Rule) (c : Config) (turn : Turn) (stage : Stage) (b : Board) (e : Entry) → IsSound b → IsLegal rule c turn stage b e → IsSound (after c b e))
    → (rule : Rule) (c : Config) (rows : List Row) (entries : List Entry) → AreOfThreads rows → IsRun rule c rows entries → IsSound (board_of c entries)
run-sound_from collections rule c rows entries threads run =
    let all : IsSoundOfThreads (board_of c entries) =
    run-keeps IsSoundOfThreads rule c rows entries
    (record { sound = sound-opening c; threads = refl })
    (λ turn stage b e h le. record {
      sound = collections rule c turn stage b e h.sound le;
      threads = ap (λ (s : State). length s.mutators) (graph-legal rule c turn stage b e le) ∙ h.threads;
    })
    (λ turn stage b e h below own. record {
      sound = sound-row rule c turn stage b e h.sound h.threads below own;
      threads = threads-own rule c turn stage b e own ∙ h.threads;
    })
    threads run in
    all.sound

-- after every run, whole or broken, the board is sound
pub run-sound : (rule : Rule) (c : Config) (rows : List Row) (entries : List Entry) → AreOfThreads rows → IsRun rule c rows entries → IsSound (board_of c entries)
run-sound = run-sound_from sound-legal
