-- The ranges of what stands on the board, after every run.
use Rattle.std.proofs.Common.{◌≡◌, ◌<◌, ◌≤◌, ◌+◌, ◌==◌, inl, inr, ℕ, zero, suc, List, [], ◌∷◌, ◌++◌, Bool, true, false, cond, Option, Some, None, length, filter, map, refl, ap, sym, subst, ◌∙◌, add-one, arith, length-append, eqb-true, lt-ltb, ltb-true}
use Rattle.std.specs.Prelude.{nat_lt}
use Rattle.std.specs.List.{AllByRecursion}
use Rattle.std.proofs.lemmas.Bool.{cases_Bool, cond_both, false≢true}
use Rattle.std.proofs.lemmas.Bool.Decides.{nat_tests}
use Rattle.std.proofs.lemmas.List.{append-nil, length-map}
use Rattle.std.proofs.lemmas.Option.{slice_get_within}
use Rattle.bal_layout.specs.Names.{is_before}
use Rattle.bal_layout.specs.Shape.{IsShape}
use Rattle.bal_layout.specs.declared.geometry.Want.{Want}
use Rattle.bal_model.specs.declared.config.Config.{Config}
use Rattle.bal_model.specs.declared.row.Reply.{Reply}
use Rattle.bal_model.specs.declared.row.Reply.TheVariants as reply
use Rattle.bal_model.specs.declared.row.Row.{Row}
use Rattle.bal_model.specs.Entries.{Entry, Spot, row, note, partial, begin, mark, end, global, executed}
use Rattle.bal_model.specs.Plain.{State, is_full, graph_after, made_by, step}
use Rattle.bal_model.specs.Spelling.{IsRow}
use Rattle.bal_model.proofs.Lemmas.{made_by-start, made_by-step, one_for}
use Rattle.bal_rules.specs.After.{after}
use Rattle.bal_rules.specs.Board.{Board, Placed, with_placed}
use Rattle.bal_rules.specs.GlobalEvents.{placed_after_packing}
use Rattle.bal_rules.specs.Interim.{Rule}
use Rattle.bal_rules.specs.PartialEvents.{placed_after_partial}
use Rattle.bal_rules.specs.Path.{Turn, Stage, opened, marking, ending, collected, own_at, IsLegal}
use Rattle.bal_rules.specs.Range.{AreMadeByRows, AreObjectsInRange, IsWithinRegions}
use Rattle.bal_rules.specs.Room.{spot_for}
use Rattle.bal_rules.specs.RowEvents.{want_of, board_after_reply}
use Rattle.bal_rules.specs.Run.{IsRun, board_of, done_by, rows_of}
use Rattle.bal_rules.specs.Sound.{AreOfThreads}
use Rattle.bal_rules.proofs.Each.{each-append}
use Rattle.bal_rules.proofs.BoardsInRange.{legal-within, opening-within, own-within}
use Rattle.bal_rules.proofs.ObjectsInRange.{start-in-range, step-in-range}
use Rattle.bal_rules.proofs.PathFacts.{executed-append, executed-legal, own-event}
use Rattle.bal_rules.proofs.RowsSound.{graph-row}
use Rattle.bal_rules.proofs.RunFacts.{board_of-more, done_by-more}
use Rattle.bal_rules.proofs.RunsSound.{graph-legal, journal-keeps, turn-has}

-- The regions.

pub run-within : (rule : Rule) (c : Config) (rows : List Row) (entries : List Entry) → 0 < c.geometry.regions → IsRun rule c rows entries → IsWithinRegions c.geometry.regions (board_of c entries)
run-within rule c rows entries some run =
    let n = c.geometry.regions in
    journal-keeps rule c rows (λ (es : List Entry). IsWithinRegions n (board_of c es))
    (λ turn stage before e h next le. subst (IsWithinRegions n) (sym (board_of-more c before e)) (legal-within n rule c turn stage (board_of c before) e some h le))
    (λ turn stage before e h next own. subst (IsWithinRegions n) (sym (board_of-more c before e)) (own-within n rule c turn stage (board_of c before) e some h own))
    entries (opening-within c) run

-- The objects.

-- the graph after a row's own event is that before it, or that of the step
graph-own : (P : State → Type 0) (rule : Rule) (c : Config) (turn : Turn) (stage : Stage) (b : Board) (e : Entry)
    → P b.plain → P (step b.plain turn.row.thread turn.row.op).1 → own_at rule c turn stage b ≡ Some e → P (after c b e).plain
graph-own P rule c turn stage b e same stepped own =
    let t = turn.row.thread in
    let o = turn.row.op in
    let r = (step b.plain t o).0 in
    let row-graph : (q : Reply) (p : Option Spot) → P (after c b (row t turn.number o q p)).plain =
    λ q p. subst P (sym (graph-row c b t turn.number o q p)) (cond_both (is_full q) b.plain (step b.plain t o).1 P (λ full. same) (λ no. stepped)) in
    own-event (λ (e : Entry). P (after c b e).plain) rule c turn stage b e
    (λ none. row-graph r None)
    (λ w asks. row-graph r (Some (spot_for c.geometry b.regions b.current w)))
    (λ w asks full. row-graph reply.Full None)
    own

pub run-objects : (rule : Rule) (c : Config) (rows : List Row) (entries : List Entry) → IsShape c.geometry → AllByRecursion (IsRow c.geometry) rows → IsRun rule c rows entries
    → AreObjectsInRange (board_of c entries).plain
run-objects rule c rows entries shape in_range run =
    journal-keeps rule c rows (λ (es : List Entry). AreObjectsInRange (board_of c es).plain)
    (λ turn stage before e h next le. subst (λ (b : Board). AreObjectsInRange b.plain) (sym (board_of-more c before e))
    (subst AreObjectsInRange (sym (graph-legal rule c turn stage (board_of c before) e le)) h))
    (λ turn stage before e h next own. subst (λ (b : Board). AreObjectsInRange b.plain) (sym (board_of-more c before e))
    (graph-own AreObjectsInRange rule c turn stage (board_of c before) e h
    (step-in-range c.geometry (board_of c before).plain turn.row.thread turn.row.op shape (turn-has (IsRow c.geometry) rows before turn in_range next).1 h) own))
    entries start-in-range run

-- How many there are.

pub filter-shorter : {X : Type 0} (p : X → Bool) (xs : List X) → length (filter p xs) ≤ length xs
filter-shorter p [] = omega arith
filter-shorter p (x ∷ xs) = by (p x) (filter-shorter p xs)
  where
    by : (b : Bool) → length (filter p xs) ≤ length xs → length (cond b (x ∷ filter p xs) (filter p xs)) ≤ length (x ∷ xs)
    by true h = omega arith
    by false h = omega arith

placed-longer : (p : Placed) (ps : List Placed) → length (with_placed p ps) ≡ length ps + 1
placed-longer p [] = refl
placed-longer p (q ∷ qs) = by (is_before p.name q.name) (placed-longer p qs)
  where
    by : (b : Bool) → length (with_placed p qs) ≡ length qs + 1 → length (cond b (p ∷ q ∷ qs) (q ∷ with_placed p qs)) ≡ length (q ∷ qs) + 1
    by true h = omega arith
    by false h = omega (arith, h)

map-filter-shorter : {X Y : Type 0} (f : X → Y) (p : X → Bool) (xs : List X) → length (map f (filter p xs)) ≤ length xs
map-filter-shorter f p xs = let e = length-map (filter p xs) f in let fewer = filter-shorter p xs in omega (arith, e, fewer)

-- no event before a row's own one makes an object present
legal-fewer : (rule : Rule) (c : Config) (turn : Turn) (stage : Stage) (b : Board) (e : Entry) → IsLegal rule c turn stage b e → length (after c b e).present ≤ length b.present
legal-fewer rule c turn (opened noted) b (note q card holder slot) h = omega arith
legal-fewer rule c turn (opened noted) b (partial chosen scans kept aborts) h = map-filter-shorter (placed_after_partial kept) _ b.present
legal-fewer rule c turn (opened noted) b (global dead packed) h = map-filter-shorter (placed_after_packing packed) _ b.present
legal-fewer rule c turn marking b begin h = omega arith
legal-fewer rule c turn marking b (mark names) h = omega arith
legal-fewer rule c turn ending b (end dead) h = filter-shorter _ b.present
legal-fewer rule c turn collected b (global dead packed) h = map-filter-shorter (placed_after_packing packed) _ b.present
legal-fewer rule c turn stage b e h = absurd h

-- and a row's own event one at most
reply-fewer : (want : Option Want) (place : Option Spot) (r : Reply) (b : Board) → length (board_after_reply want place r b).present ≤ length b.present + 1
reply-fewer None place r b = omega arith
reply-fewer (Some w) None r b = omega arith
reply-fewer (Some w) (Some spot) (reply.Name x) b =
    let more = placed-longer (record { name = x; region = spot.region; leaves = spot.leaves }) b.present in omega (arith, more)
reply-fewer (Some w) (Some spot) reply.Null b = omega arith
reply-fewer (Some w) (Some spot) (reply.Number k) b = omega arith
reply-fewer (Some w) (Some spot) reply.Ok b = omega arith
reply-fewer (Some w) (Some spot) reply.Nil b = omega arith
reply-fewer (Some w) (Some spot) reply.Slot b = omega arith
reply-fewer (Some w) (Some spot) reply.Full b = omega arith

-- what the row event of a turn adds to a journal
record IsRowOf (c : Config) (b : Board) (before : List Entry) (turn : Turn) (e : Entry) : Type 0 where
  done : (u : ℕ) → done_by u (before ++ e ∷ []) ≡ done_by u before + one_for turn.row.thread u
  executes : executed (before ++ e ∷ []) ≡ executed before ++ turn.row ∷ []
  present : length (after c b e).present ≤ length b.present + 1

row-of : (rule : Rule) (c : Config) (before : List Entry) (turn : Turn) (stage : Stage) (b : Board) (e : Entry) → own_at rule c turn stage b ≡ Some e → IsRowOf c b before turn e
row-of rule c before turn stage b e own =
    let t = turn.row.thread in
    let o = turn.row.op in
    let r = (step b.plain t o).0 in
    let is : (q : Reply) (p : Option Spot) → IsRowOf c b before turn (row t turn.number o q p) =
    λ q p. record {
      done = λ u. done_by-more u before t turn.number o q p;
      executes = executed-append before (row t turn.number o q p ∷ []);
      present = reply-fewer (want_of c.geometry o) p q (record b { plain = graph_after b.plain t o q });
    } in
    own-event (IsRowOf c b before turn) rule c turn stage b e (λ none. is r None) (λ w asks. is r (Some (spot_for c.geometry b.regions b.current w))) (λ w asks full. is reply.Full None) own

-- an event before it executes nothing
executed-stays : (rule : Rule) (c : Config) (turn : Turn) (stage : Stage) (b : Board) (before : List Entry) (e : Entry) → IsLegal rule c turn stage b e → executed (before ++ e ∷ []) ≡ executed before
executed-stays rule c turn stage b before e le =
    executed-append before (e ∷ []) ∙ ap (λ (rs : List Row). executed before ++ rs) (executed-legal rule c turn stage b e le) ∙ append-nil (executed before)

pub run-made : (rule : Rule) (c : Config) (rows : List Row) (entries : List Entry) → IsRun rule c rows entries → AreMadeByRows entries (board_of c entries)
run-made rule c rows entries run =
    journal-keeps rule c rows (λ (es : List Entry). AreMadeByRows es (board_of c es))
    (λ turn stage before e h next le.
    let b = board_of c before in
    let same = executed-stays rule c turn stage b before e le in
    let fewer = legal-fewer rule c turn stage b e le in
    subst (AreMadeByRows (before ++ e ∷ [])) (sym (board_of-more c before e)) (record {
      by_thread = λ t. omega (arith, ap (λ (s : State). made_by s t) (graph-legal rule c turn stage b e le), h.by_thread t, ap (λ (rs : List Row). length (rows_of t rs)) same);
      present = omega (arith, fewer, h.present, ap length same);
    }))
    (λ turn stage before e h next own.
    let b = board_of c before in
    let t = turn.row.thread in
    let is = row-of rule c before turn stage b e own in
    subst (AreMadeByRows (before ++ e ∷ [])) (sym (board_of-more c before e)) (record {
      by_thread = λ u.
          let made = graph-own (λ (s : State). made_by s u ≤ made_by b.plain u + one_for t u) rule c turn stage b e (omega arith) (made_by-step b.plain t turn.row.op u) own in
          omega (arith, made, h.by_thread u, is.done u);
      present = omega (arith, is.present, h.present, ap length is.executes, length-append (executed before) (turn.row ∷ []));
    }))
    entries (record { by_thread = λ t. let none = made_by-start t in omega (arith, none); present = omega arith }) run

-- What is executed.

-- each executed row is of one of the threads, and none has more of them than the trace
record AreRowsOf (rows : List Row) (entries : List Entry) : Type 0 where
  threads : AreOfThreads (executed entries)
  few : (t : ℕ) → done_by t entries ≤ length (rows_of t rows)

run-rows : (rule : Rule) (c : Config) (rows : List Row) (entries : List Entry) → AreOfThreads rows → IsRun rule c rows entries → AreRowsOf rows entries
run-rows rule c rows entries threads run =
    journal-keeps rule c rows (AreRowsOf rows)
    (λ turn stage before e h next le.
    let same = executed-stays rule c turn stage (board_of c before) before e le in
    record {
      threads = subst AreOfThreads (sym same) h.threads;
      few = λ t. omega (arith, h.few t, ap (λ (rs : List Row). length (rows_of t rs)) same);
    })
    (λ turn stage before e h next own.
    let is = row-of rule c before turn stage (board_of c before) e own in
    let t = turn.row.thread in
    let below : t < 32 = turn-has (λ (r : Row). r.thread < 32) rows before turn threads next in
    record {
      threads = subst AreOfThreads (sym is.executes) (each-append (λ (r : Row). r.thread < 32) (executed before) (turn.row ∷ []) h.threads (below, tt));
      few = λ u. elim (cases_Bool (t == u)) [
        | inl mine ↦ (
            let same : t ≡ u = eqb-true t u mine in
            let within = slice_get_within (rows_of t rows) (done_by t before) turn.row next.next in
            omega (arith, is.done u, ap {B = ℕ} (λ (b : Bool). cond b 1 0) mine, within, ap (λ (v : ℕ). length (rows_of v rows)) same, ap (λ (v : ℕ). done_by v before) same)
            )
        | inr other ↦ omega (arith, is.done u, h.few u, ap {B = ℕ} (λ (b : Bool). cond b 1 0) other)
      ];
    })
    entries (record { threads = tt; few = λ t. omega arith }) run

-- the rows of the threads below one are those of the threads below the one before, and its own
below-more : (t : ℕ) (rows : List Row) → length (filter (λ (r : Row). nat_lt r.thread (t + 1)) rows) ≡ length (filter (λ (r : Row). nat_lt r.thread t) rows) + length (rows_of t rows)
below-more t [] = refl
below-more t (r ∷ rows) = by (nat_lt r.thread (t + 1)) (nat_lt r.thread t) (r.thread == t) one (below-more t rows)
  where
    one : cond (nat_lt r.thread (t + 1)) 1 0 ≡ cond (nat_lt r.thread t) 1 0 + cond (r.thread == t) 1 0
    one = grind (arith, nat_tests)

    by : (a b d : Bool) → cond a 1 0 ≡ cond b 1 0 + cond d 1 0
        → length (filter (λ (r : Row). nat_lt r.thread (t + 1)) rows) ≡ length (filter (λ (r : Row). nat_lt r.thread t) rows) + length (rows_of t rows)
        → length (cond a (r ∷ filter (λ (r : Row). nat_lt r.thread (t + 1)) rows) (filter (λ (r : Row). nat_lt r.thread (t + 1)) rows))
        ≡ length (cond b (r ∷ filter (λ (r : Row). nat_lt r.thread t) rows) (filter (λ (r : Row). nat_lt r.thread t) rows)) + length (cond d (r ∷ rows_of t rows) (rows_of t rows))
    by true true true e h = absurd (omega (arith, e))
    by true true false e h = omega (arith, h)
    by true false true e h = omega (arith, h)
    by true false false e h = absurd (omega (arith, e))
    by false true true e h = absurd (omega (arith, e))
    by false true false e h = absurd (omega (arith, e))
    by false false true e h = absurd (omega (arith, e))
    by false false false e h = h

below-fewer : (t : ℕ) (xs ys : List Row) → ((u : ℕ) → length (rows_of u xs) ≤ length (rows_of u ys))
    → length (filter (λ (r : Row). nat_lt r.thread t) xs) ≤ length (filter (λ (r : Row). nat_lt r.thread t) ys)
below-fewer zero xs ys h = omega (arith, none xs, none ys)
  where
    none : (zs : List Row) → length (filter (λ (r : Row). nat_lt r.thread 0) zs) ≡ 0
    none [] = refl
    none (z ∷ zs) = by (nat_lt z.thread 0) (λ e. omega (arith, ltb-true z.thread 0 e)) (none zs)
      where
        by : (b : Bool) → (b ≡ true → ⊥) → length (filter (λ (r : Row). nat_lt r.thread 0) zs) ≡ 0
            → length (cond b (z ∷ filter (λ (r : Row). nat_lt r.thread 0) zs) (filter (λ (r : Row). nat_lt r.thread 0) zs)) ≡ 0
        by true h rest = absurd (h refl)
        by false h rest = rest
below-fewer (suc t) xs ys h =
    let one = below-more t xs in
    let two = below-more t ys in
    let rest = below-fewer t xs ys h in
    let here = h t in
    subst (λ (n : ℕ). length (filter (λ (r : Row). nat_lt r.thread n) xs) ≤ length (filter (λ (r : Row). nat_lt r.thread n) ys)) (add-one t) (omega (arith, one, two, rest, here))

all-below : (n : ℕ) (rows : List Row) → AllByRecursion (λ (r : Row). r.thread < n) rows → length rows ≤ length (filter (λ (r : Row). nat_lt r.thread n) rows)
all-below n [] h = omega arith
all-below n (r ∷ rows) h = by (nat_lt r.thread n) (lt-ltb r.thread n h.0) (all-below n rows h.1)
  where
    by : (b : Bool) → b ≡ true → length rows ≤ length (filter (λ (r : Row). nat_lt r.thread n) rows)
        → length (r ∷ rows) ≤ length (cond b (r ∷ filter (λ (r : Row). nat_lt r.thread n) rows) (filter (λ (r : Row). nat_lt r.thread n) rows))
    by true e rest = omega arith
    by false e rest = absurd (false≢true e)

-- a run executes no more rows than the trace has
pub run-executes-few : (rule : Rule) (c : Config) (rows : List Row) (entries : List Entry) → AreOfThreads rows → IsRun rule c rows entries → length (executed entries) ≤ length rows
run-executes-few rule c rows entries threads run =
    let is = run-rows rule c rows entries threads run in
    omega (arith, all-below 32 (executed entries) is.threads, below-fewer 32 (executed entries) rows is.few, filter-shorter (λ (r : Row). nat_lt r.thread 32) rows)

-- nor of a thread
pub run-done-few : (rule : Rule) (c : Config) (rows : List Row) (entries : List Entry) (t : ℕ) → AreOfThreads rows → IsRun rule c rows entries → done_by t entries ≤ length rows
run-done-few rule c rows entries t threads run =
    let is = run-rows rule c rows entries threads run in
    omega (arith, is.few t, filter-shorter (λ (r : Row). r.thread == t) rows)
