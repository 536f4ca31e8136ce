-- Each event of a run has a line.
use Rattle.std.proofs.Common.{◌≡◌, ◌<◌, ◌≤◌, ◌+◌, ◌==◌, ℕ, List, [], ◌∷◌, Bool, true, false, cond, ltb, Option, Some, None, length, refl, sym, subst, arith}
use Rattle.std.specs.Prelude.{◌^◌, IfSome, IsTrue, slice_index_or}
use Rattle.std.specs.List.{AllByRecursion}
use Rattle.std.proofs.lemmas.Option.{none-some, slice_get_within}
use Rattle.bal_layout.specs.Names.{is_among}
use Rattle.bal_layout.specs.Shape.{IsShape, Shape}
use Rattle.bal_layout.specs.declared.geometry.Want.{Want}
use Rattle.bal_layout.specs.declared.name.Name.{Name}
use Rattle.bal_model.specs.declared.config.Config.{Config}
use Rattle.bal_model.specs.declared.row.Op.{Op}
use Rattle.bal_model.specs.declared.row.Op.TheVariants as op
use Rattle.bal_model.specs.declared.row.Reply.{Reply}
use Rattle.bal_model.specs.declared.row.Reply.TheVariants as reply
use Rattle.bal_model.specs.declared.row.Row.{Row}
use Rattle.bal_model.specs.Entries.{Entry, Spot, row, note, partial, begin, mark, end, global}
use Rattle.bal_model.specs.Plain.{Object, State, Step, at_slot, global as global_at, made_by, name_or_null, next_name, object, reference, reference_count, register, step, taking, value, value_count, values_of, with_reference, with_value}
use Rattle.bal_model.specs.Spelling.{IsOp, IsRow}
use Rattle.bal_model.proofs.Lemmas.{is_among-head}
use Rattle.bal_rules.specs.Board.{Board, names_placed}
use Rattle.bal_rules.specs.Interim.{Rule}
use Rattle.bal_rules.specs.Path.{Stage, Turn, opened, marking, ending, collected, own_at, IsLegal}
use Rattle.bal_rules.specs.Range.{AreObjectsInRange, IsObjectInRange}
use Rattle.bal_rules.specs.Room.{spot_for}
use Rattle.bal_rules.specs.RowEvents.{want_of}
use Rattle.bal_rules.specs.Run.{IsRun, board_of, done_by, rows_of}
use Rattle.bal_rules.specs.Sound.{AreOfThreads}
use Rattle.bal_rules.proofs.Lemmas.{AreHeld, Holds-from, IsSpotWithin, each-append, each-at, each-goes, filter-shorter, held-global, held-reference, held-register, journal-keeps, own-event, run-done-few, run-executes-few, run-made, run-objects, run-sound, run-within, spot-within, turn-has}
use Rattle.bal_text.specs.Lines.{HasLine, IsName, IsPlace, IsReply, IsSpot, OpFits, is_placed}
use Rattle.bal_laws.proofs.CollectionsOfRuns.{run-before}
use Rattle.bal_laws.proofs.EventLines.{IsInRange, each-region, end-line, global-line, mark-line, note-line, object-has, partial-line, present-name, small-name, small-region}

-- The operation.
small-op : (s : Shape) (o : Op) → IsShape s → IsOp s o → OpFits o
small-op s (op.New register refs values) shape is =
    let few : refs < 2 ^ 32 = omega (arith, is.1, shape.most_words) in
    let short : values < 2 ^ 32 = omega (arith, is.1, shape.most_words) in
    (omega (arith, is.0), (few, (short, tt)))
small-op s (op.Arr register len) shape is = (omega (arith, is.0), (omega (arith, is.1), tt))
small-op s (op.Store holder slot value) shape is = (omega (arith, is.0), (omega (arith, is.1), (omega (arith, is.2), tt)))
small-op s (op.Load into holder slot) shape is = (omega (arith, is.0), (omega (arith, is.1), (omega (arith, is.2), tt)))
small-op s (op.Put holder slot number) shape is = (omega (arith, is.0), omega (arith, is.1), is.2)
small-op s (op.Get holder slot) shape is = (omega (arith, is.0), (omega (arith, is.1), tt))
small-op s (op.GStore g r) shape is = (omega (arith, is.0), (omega (arith, is.1), tt))
small-op s (op.GLoad into g) shape is = (omega (arith, is.0), (omega (arith, is.1), tt))
small-op s (op.Drop register) shape is = (omega (arith, is), tt)
small-op s op.Gc shape is = tt

-- The reply.

held-reply : (c : Config) (b : Board) (o : Option Name) → IsInRange c b → AreHeld o (names_placed b.present) → IsReply (name_or_null o)
held-reply c b None h held = tt
held-reply c b (Some x) h held = present-name c b x h (held x (is_among-head x []))

slot-reply : (s : State) (x : Option Name) (count : Name → ℕ) (slot : ℕ) (act : Name → Step) (names : List Name) → AreHeld x names
    → ((x : Name) → IsTrue (is_among x names) → IsReply (act x).0) → IsReply (at_slot s x count slot act).0
slot-reply s None count slot act names held acts = tt
slot-reply s (Some x) count slot act names held acts = by (ltb slot (count x)) (acts x (held x (is_among-head x [])))
  where
    by : (b : Bool) → IsReply (act x).0 → IsReply (cond b (act x) (reply.Slot, s)).0
    by true h = h
    by false h = tt

value-small : (s : State) (x : Name) (slot : ℕ) → (c : Config) (b : Board) → s ≡ b.plain → IsInRange c b → value s x slot < 2 ^ 64
value-small s x slot c b same h = by (object s x) (object-has s x (subst (λ (s : State). AreObjectsInRange s) (sym same) h.objects))
  where
    by : (o : Option Object) → IfSome o IsObjectInRange → slice_index_or (values_of o) slot 0 < 2 ^ 64
    by None is = omega arith
    by (Some o) is = each-at (λ (v : ℕ). v < 2 ^ 64) o.values slot 0 is.values (omega arith)

next-small : (c : Config) (b : Board) (t : ℕ) → t < 32 → made_by b.plain t + 1 ≤ 2 ^ 20 → IsName (next_name b.plain t)
next-small c b t thread few = small-name (next_name b.plain t) thread (omega arith) few

small-reply : (c : Config) (b : Board) (t : ℕ) (o : Op) → t < 32 → made_by b.plain t + 1 ≤ 2 ^ 20 → IsInRange c b → IsReply (step b.plain t o).0
small-reply c b t (op.New r refs values) thread few h = next-small c b t thread few
small-reply c b t (op.Arr r len) thread few h = next-small c b t thread few
small-reply c b t (op.Store holder slot content) thread few h =
    let s = b.plain in
    let names = names_placed b.present in
    let k = Holds-from b h.sound in
    slot-reply s (register s t holder) (reference_count s) slot (λ x. (reply.Ok, with_reference s x slot (register s t content))) names (held-register s names t holder k) (λ x here. tt)
small-reply c b t (op.Load into holder slot) thread few h =
    let s = b.plain in
    let names = names_placed b.present in
    let k = Holds-from b h.sound in
    slot-reply s (register s t holder) (reference_count s) slot (λ x. taking s t into (reference s x slot)) names (held-register s names t holder k)
    (λ x here. held-reply c b (reference s x slot) h (held-reference s names x slot k here))
small-reply c b t (op.Put holder slot number) thread few h =
    let s = b.plain in
    let names = names_placed b.present in
    let k = Holds-from b h.sound in
    slot-reply s (register s t holder) (value_count s) slot (λ x. (reply.Ok, with_value s x slot number)) names (held-register s names t holder k) (λ x here. tt)
small-reply c b t (op.Get holder slot) thread few h =
    let s = b.plain in
    let names = names_placed b.present in
    let k = Holds-from b h.sound in
    slot-reply s (register s t holder) (value_count s) slot (λ x. (reply.Number (value s x slot), s)) names (held-register s names t holder k)
    (λ x here. value-small s x slot c b refl h)
small-reply c b t (op.GStore g r) thread few h = tt
small-reply c b t (op.GLoad into g) thread few h = held-reply c b (global_at b.plain g) h (held-global b.plain (names_placed b.present) g (Holds-from b h.sound))
small-reply c b t (op.Drop r) thread few h = tt
small-reply c b t op.Gc thread few h = tt

-- The place.

-- a row that asks for no room has none
unplaced : (s : Shape) (o : Op) (r : Reply) → want_of s o ≡ None → IsPlace (is_placed o r) None
unplaced s (op.New register refs values) r none = cc
unplaced s (op.Arr register len) r none = cc
unplaced s o r none = tt

-- an allocation that is placed replies the new name
placed : (s : Shape) (st : State) (t : ℕ) (o : Op) (w : Want) (spot : Spot) → want_of s o ≡ Some w → IsSpot spot → IsPlace (is_placed o (step st t o).0) (Some spot)
placed s st t (op.New r refs values) w spot asks is = is
placed s st t (op.Arr r len) w spot asks is = is
placed s st t o w spot asks is = absurd (none-some w asks)

full-unplaced : (o : Op) → IsPlace (is_placed o reply.Full) None
full-unplaced op.Gc = tt
full-unplaced o = tt

spot-small : (c : Config) (spot : Spot) → IsShape c.geometry → IsSpotWithin c.geometry.regions spot → IsSpot spot
spot-small c spot shape h = (small-region c spot.region shape h.region, each-region c spot.leaves shape h.leaves)

-- A row's own event.
own-line : (rule : Rule) (c : Config) (turn : Turn) (stage : Stage) (b : Board) (e : Entry) → IsInRange c b → IsRow c.geometry turn.row → made_by b.plain turn.row.thread + 1 ≤ 2 ^ 20
    → turn.number ≤ 2 ^ 20 → own_at rule c turn stage b ≡ Some e → HasLine e
own-line rule c turn stage b e h is few number own =
    let t = turn.row.thread in
    let o = turn.row.op in
    let r = (step b.plain t o).0 in
    let line : (q : Reply) (p : Option Spot) → IsReply q → IsPlace (is_placed o q) p → HasLine (row t turn.number o q p) =
    λ q p replies place. record {
      is_thread = omega (arith, is.0);
      is_number = omega (arith, number);
      fits = small-op c.geometry o h.shape is.1;
      is_reply = replies;
      is_place = place;
    } in
    let replies = small-reply c b t o is.0 few h in
    own-event HasLine rule c turn stage b e
    (λ none. line r None replies (unplaced c.geometry o r none))
    (λ w asks.
    let spot = spot_for c.geometry b.regions b.current w in
    line r (Some spot) replies (placed c.geometry b.plain t o w spot asks
    (spot-small c spot h.shape (spot-within c.geometry c.geometry.regions b.regions b.current w (omega (arith, h.shape.fewest_regions)) h.within.count h.within.current))))
    (λ w asks full. line reply.Full None tt (full-unplaced o))
    own

-- Each event that may come before a row's own one.
legal-line : (rule : Rule) (c : Config) (turn : Turn) (stage : Stage) (b : Board) (e : Entry) → IsInRange c b → IsLegal rule c turn stage b e → HasLine e
legal-line rule c turn (opened noted) b (note q card holder slot) h le = note-line c b noted q card holder slot h le.1
legal-line rule c turn (opened noted) b (partial chosen scans kept aborts) h le = partial-line c b chosen scans kept aborts h le.1
legal-line rule c turn (opened noted) b (global dead packed) h le = global-line c b dead packed h le.1
legal-line rule c turn marking b begin h le = tt
legal-line rule c turn marking b (mark names) h le = mark-line c b names h le
legal-line rule c turn ending b (end dead) h le = end-line c b dead h le
legal-line rule c turn collected b (global dead packed) h le = global-line c b dead packed h le.1
legal-line rule c turn stage b e h le = absurd le

-- The board of a run is in range, where the trace and the configuration are.
pub run-in-range : (rule : Rule) (c : Config) (rows : List Row) (entries : List Entry) → IsShape c.geometry → c.workers ≤ 32 → AllByRecursion (IsRow c.geometry) rows → length rows ≤ 2 ^ 20
    → IsRun rule c rows entries → IsInRange c (board_of c entries)
run-in-range rule c rows entries shape workers in_range few run =
    let threads : AreOfThreads rows = threads-of c rows in_range in
    let made = run-made rule c rows entries run in
    record {
      shape = shape;
      workers = workers;
      sound = run-sound rule c rows entries threads run;
      within = run-within rule c rows entries (omega (arith, shape.fewest_regions)) run;
      objects = run-objects rule c rows entries shape in_range run;
      made = λ t. omega (arith, made.by_thread t, run-done-few rule c rows entries t threads run, few);
      present = omega (arith, made.present, run-executes-few rule c rows entries threads run, few);
    }
  where
    threads-of : (c : Config) (rows : List Row) → AllByRecursion (IsRow c.geometry) rows → AreOfThreads rows
    threads-of c rows h = each-goes (IsRow c.geometry) (λ (r : Row). r.thread < 32) (λ r is. is.0) rows h

-- each event of a run has a line
pub run-lines : (rule : Rule) (c : Config) (rows : List Row) (entries : List Entry) → IsShape c.geometry → c.workers ≤ 32 → AllByRecursion (IsRow c.geometry) rows → length rows ≤ 2 ^ 20
    → IsRun rule c rows entries → AllByRecursion HasLine entries
run-lines rule c rows entries shape workers in_range few run =
    journal-keeps rule c rows (λ (es : List Entry). IsRun rule c rows es → AllByRecursion HasLine es)
    (λ turn stage before e h next le grown.
    let front = run-before rule c rows before e [] grown in
    each-append HasLine before (e ∷ []) (h front) (legal-line rule c turn stage (board_of c before) e (run-in-range rule c rows before shape workers in_range few front) le, tt))
    (λ turn stage before e h next own grown.
    let front = run-before rule c rows before e [] grown in
    let t = turn.row.thread in
    let within = slice_get_within (rows_of t rows) (done_by t before) turn.row next.next in
    let fewer = filter-shorter (λ (r : Row). r.thread == t) rows in
    let made = (run-made rule c rows before front).by_thread t in
    each-append HasLine before (e ∷ []) (h front) (
      own-line rule c turn stage (board_of c before) e (run-in-range rule c rows before shape workers in_range few front) (turn-has (IsRow c.geometry) rows before turn in_range next)
          (omega (arith, made, within, fewer, few)) (omega (arith, next.number, within, fewer, few)) own,
      tt,
    ))
    entries (λ empty. tt) run run
