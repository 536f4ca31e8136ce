-- Whether an event can stand at one place of a journal in any run at all, whole or broken, by a test.
use Rattle.std.proofs.Common.{◌≡◌, ℕ, zero, suc, ◌+◌, List, [], ◌∷◌, ◌++◌, ◌||◌, ◌==◌, Bool, true, false, cond, Option, Some, None, ◌⊎◌, inl, inr, length, take, refl, ap, sym, subst, ◌∙◌, append_assoc}
use Rattle.std.specs.Prelude.{slice_get, filter}
use Rattle.std.specs.List.{list_any}
use Rattle.std.proofs.lemmas.List.{append-nil}
use Rattle.bal_layout.specs.declared.geometry.Want.{Want}
use Rattle.bal_model.specs.declared.config.Config.{Config}
use Rattle.bal_model.specs.declared.row.Row.{Row}
use Rattle.bal_rules.specs.After.{after}
use Rattle.bal_rules.specs.Board.{Board}
use Rattle.bal_model.specs.Entries.{Entry, row, note, executed}
use Rattle.bal_rules.specs.Interim.{Rule, whole}
use Rattle.bal_rules.specs.NoteEvents.{Slot}
use Rattle.bal_rules.specs.Path.{Stage, opened, marking, ending, collected, compacted, Turn, IsLegal, IsPathFrom, own_for, own_at, next_stage}
use Rattle.bal_rules.specs.RowEvents.{want_of}
use Rattle.bal_rules.specs.Run.{IsRun, Piece, ArePieces, events_of, rows_of, done_by, board_of}
use Rattle.bal_rules.proofs.Lemmas.{board_of-more, executed-append, not-empty, thread-of}
use Rattle.bal_laws.specs.Refused.{Wrong, IsRefusedThere}
use Rattle.bal_laws.proofs.Deciders.{Decided, equal, options}
use Rattle.bal_laws.proofs.DecidersWords.{row_equality, is_row}
use Rattle.bal_laws.proofs.DecidersPath.{is_legal}
use Rattle.bal_laws.proofs.RunTests.{turn_after, is_next}

-- The test.

-- an event may come at a stage: the row's own, or one before it
abbrev pub IsDue : Rule → Config → Turn → Stage → Board → Entry → Type 0
IsDue rule c turn stage b (row t k o r p) = own_at rule c turn stage b ≡ Some (row t k o r p)
IsDue rule c turn stage b e = IsLegal rule c turn stage b e

abbrev pub is_due : (rule : Rule) (c : Config) (turn : Turn) (stage : Stage) (b : Board) (e : Entry) → Decided (IsDue rule c turn stage b e)
is_due rule c turn stage b (row t k o r p) = is_row t k o r p (own_at rule c turn stage b)
is_due rule c turn stage b e = is_legal rule c turn stage b e

abbrev pub last_event : List Entry → Option Entry
last_event [] = None
last_event (e ∷ []) = Some e
last_event (e ∷ f ∷ es) = last_event (f ∷ es)

-- the stage after the last event, where the path goes on
abbrev pub stage_behind : Rule → Config → Board → Option Entry → Stage
stage_behind rule c b None = opened []
stage_behind rule c b (Some e) = next_stage rule c b (opened []) e

-- the rows of the trace that are their thread's next ones
abbrev pub next_rows : List Row → List Entry → List Row
next_rows rows before = filter (is_next rows before) rows

-- for one of them the event may come: at the beginning of a path, or where the last path goes on
abbrev pub may_stand_for : Rule → Config → Stage → List Entry → Board → Entry → Row → Bool
may_stand_for rule c stage before b e r = (is_due rule c (turn_after before r) (opened []) b e).test || (is_due rule c (turn_after before r) stage b e).test

abbrev pub may_stand : Rule → Config → List Row → List Entry → Entry → Bool
may_stand rule c rows before e =
    list_any (may_stand_for rule c (stage_behind rule c (board_of c before) (last_event before)) before (board_of c before) e) (next_rows rows before)

-- What a run tells of the place.

-- a stage is known: nothing but notes came yet, or it is the one after the last event
abbrev pub Known : Stage → Stage → Type 0
Known stage behind = ((noted : List Slot) × (stage ≡ opened noted)) ⊎ (stage ≡ behind)

record Stand (rule : Rule) (c : Config) (rows : List Row) (t : ℕ) (row : Row) (before : List Entry) (e : Entry) : Type 0 where
  stage : Stage
  known : Known stage (stage_behind rule c (board_of c before) (last_event before))
  due : IsDue rule c (record { row = row; number = done_by t before + 1 }) stage (board_of c before) e

record Place (rule : Rule) (c : Config) (rows : List Row) (before : List Entry) (e : Entry) : Type 0 where
  thread : ℕ
  row : Row
  next : slice_get (rows_of thread rows) (done_by thread before) ≡ Some row
  stand : Stand rule c rows thread row before e

last-append : (es : List Entry) (e : Entry) → last_event (es ++ e ∷ []) ≡ Some e
last-append [] e = refl
last-append (x ∷ []) e = refl
last-append (x ∷ y ∷ es) e = last-append (y ∷ es) e

-- events that execute no row leave what was executed
pub executed-same : (xs ys : List Entry) → executed ys ≡ [] → executed (xs ++ ys) ≡ executed xs
executed-same xs ys h = executed-append xs ys ∙ ap (λ (rs : List Row). executed xs ++ rs) h ∙ append-nil (executed xs)

-- the first event of the rest of a path may come
pub due-first : (rule : Rule) (c : Config) (turn : Turn) (stage : Stage) (b : Board) (complete : Bool) (e : Entry) (es : List Entry)
    → IsPathFrom rule c turn stage b complete (e ∷ es) → IsDue rule c turn stage b e
due-first rule c turn stage b complete (row t k o r p) es h = h.0
due-first rule c turn stage b complete e es h = h.0

-- after an event a path is at its end, or goes on at a stage that is known
pub record GoesOn (rule : Rule) (c : Config) (turn : Turn) (stage : Stage) (b : Board) (complete : Bool) (e : Entry) (es : List Entry) : Type 0 where
  pub executes_none : executed (e ∷ []) ≡ []
  pub rest : IsPathFrom rule c turn (next_stage rule c (after c b e) stage e) (after c b e) complete es
  pub known : Known (next_stage rule c (after c b e) stage e) (stage_behind rule c (after c b e) (Some e))

pub goes-on : (rule : Rule) (c : Config) (turn : Turn) (stage : Stage) (b : Board) (complete : Bool) (e : Entry) (es : List Entry)
    → IsPathFrom rule c turn stage b complete (e ∷ es) → (es ≡ []) ⊎ GoesOn rule c turn stage b complete e es
goes-on rule c turn stage b complete (row t k o r p) es h = inl h.2
goes-on rule c turn (opened noted) b complete (note q card holder slot) es h = inr (record { executes_none = refl; rest = h.1; known = inl (_, refl) })
goes-on rule c turn marking b complete (note q card holder slot) es h = absurd h.0
goes-on rule c turn ending b complete (note q card holder slot) es h = absurd h.0
goes-on rule c turn collected b complete (note q card holder slot) es h = absurd h.0
goes-on rule c turn compacted b complete (note q card holder slot) es h = absurd h.0
goes-on rule c turn stage b complete e es h = inr (record { executes_none = refl; rest = h.1; known = inr refl })

-- an event in a path
record InPath (rule : Rule) (c : Config) (rows : List Row) (t n : ℕ) (row : Row) (before : List Entry) (e : Entry) : Type 0 where
  same : n ≡ done_by t before
  stage : Stage
  known : Known stage (stage_behind rule c (board_of c before) (last_event before))
  due : IsDue rule c (record { row = row; number = n + 1 }) stage (board_of c before) e

in-path : (rule : Rule) (c : Config) (rows : List Row) (t n : ℕ) (r : Row) (front : List Entry) (stage : Stage) (b : Board) (complete : Bool) (xs : List Entry) (e : Entry) (zs : List Entry)
    → n ≡ done_by t front → b ≡ board_of c front → Known stage (stage_behind rule c (board_of c front) (last_event front))
    → IsPathFrom rule c (record { row = r; number = n + 1 }) stage b complete (xs ++ e ∷ zs) → InPath rule c rows t n r (front ++ xs) e
in-path rule c rows t n r front stage b complete [] e zs same at known h =
    let turn : Turn = record { row = r; number = n + 1 } in
    subst (λ (before : List Entry). InPath rule c rows t n r before e) (sym (append-nil front)) (record {
      same = same;
      stage = stage;
      known = known;
      due = subst (λ (b : Board). IsDue rule c turn stage b e) at (due-first rule c turn stage b complete e zs h);
    })
in-path rule c rows t n r front stage b complete (x ∷ xs) e zs same at known h =
    let turn : Turn = record { row = r; number = n + 1 } in
    elim (goes-on rule c turn stage b complete x (xs ++ e ∷ zs) h) [
      | inl none ↦ absurd (not-empty xs e zs none)
      | inr on ↦
          let here : after c b x ≡ board_of c (front ++ x ∷ []) = ap (λ (b : Board). after c b x) at ∙ sym (board_of-more c front x) in
          let behind : Known (next_stage rule c (after c b x) stage x) (stage_behind rule c (board_of c (front ++ x ∷ [])) (last_event (front ++ x ∷ []))) =
          subst (λ (o : Option Entry). Known (next_stage rule c (after c b x) stage x) (stage_behind rule c (board_of c (front ++ x ∷ [])) o)) (sym (last-append front x))
          (subst (λ (b' : Board). Known (next_stage rule c (after c b x) stage x) (stage_behind rule c b' (Some x))) here on.known) in
          let more : done_by t front ≡ done_by t (front ++ x ∷ []) = ap (λ (rs : List Row). length (rows_of t rs)) (sym (executed-same front (x ∷ []) on.executes_none)) in
          subst (λ (before : List Entry). InPath rule c rows t n r before e) (append_assoc front (x ∷ []) xs)
          (in-path rule c rows t n r (front ++ x ∷ []) (next_stage rule c (after c b x) stage x) (after c b x) complete xs e zs (same ∙ more) here behind on.rest)
    ]

-- a list that goes on after an item, cut at another place: the item stands in the front, or after it
pub record InFront (xs : List Entry) (e : Entry) (us : List Entry) : Type 0 where
  pub rest : List Entry
  pub front : us ≡ xs ++ e ∷ rest

pub record Behind (xs : List Entry) (e : Entry) (ys us vs : List Entry) : Type 0 where
  pub between : List Entry
  pub front : xs ≡ us ++ between
  pub back : between ++ e ∷ ys ≡ vs

pub split : (xs : List Entry) (e : Entry) (ys us vs : List Entry) → xs ++ e ∷ ys ≡ us ++ vs → InFront xs e us ⊎ Behind xs e ys us vs
split xs e ys [] vs h = inr (record { between = xs; front = refl; back = h })
split [] e ys (u ∷ us) vs h = inl (record { rest = us; front = cc })
split (x ∷ xs) e ys (u ∷ us) vs h =
    let same : x ≡ u = cc in
    let on : xs ++ e ∷ ys ≡ us ++ vs = cc in
    elim (split xs e ys us vs on) [
      | inl f ↦ inl (record { rest = f.rest; front = ap (λ (es : List Entry). u ∷ es) f.front ∙ ap (λ (y : Entry). y ∷ (xs ++ e ∷ f.rest)) (sym same) })
      | inr b ↦ inr (record { between = b.between; front = ap (λ (y : Entry). y ∷ xs) same ∙ ap (λ (es : List Entry). u ∷ es) b.front; back = b.back })
    ]

in-pieces : (rule : Rule) (c : Config) (rows : List Row) (front : List Entry) (pieces : List Piece) (xs : List Entry) (e : Entry) (ys : List Entry)
    → ArePieces rule c rows front pieces → xs ++ e ∷ ys ≡ events_of pieces → Place rule c rows (front ++ xs) e
in-pieces rule c rows front [] xs e ys h cut = absurd (not-empty xs e ys cut)
in-pieces rule c rows front (piece ∷ pieces) xs e ys h cut =
    elim (split xs e ys piece.events (events_of pieces) cut) [
      | inl f ↦
          let t = piece.thread in
          let n = done_by t front in
          let turn : Turn = record { row = h.0.row; number = n + 1 } in
          let path = subst (λ (es : List Entry). IsPathFrom rule c turn (opened []) (board_of c front) piece.whole es) f.front h.0.path in
          let found = in-path rule c rows t n h.0.row front (opened []) (board_of c front) piece.whole xs e f.rest refl refl (inl ([], refl)) path in
          record {
            thread = t;
            row = h.0.row;
            next = subst (λ (k : ℕ). slice_get (rows_of t rows) k ≡ Some h.0.row) found.same h.0.next;
            stand = record {
              stage = found.stage;
              known = found.known;
              due = subst (λ (k : ℕ). IsDue rule c (record { row = h.0.row; number = k + 1 }) found.stage (board_of c (front ++ xs)) e) found.same found.due;
            };
          }
      | inr b ↦
          subst (λ (before : List Entry). Place rule c rows before e) (append_assoc front piece.events b.between ∙ ap (λ (es : List Entry). front ++ es) (sym b.front))
          (in-pieces rule c rows (front ++ piece.events) pieces b.between e ys h.1 b.back)
    ]

-- What the test tells.

-- the slots that were noted only keep events away
own-same : (rule : Rule) (c : Config) (turn : Turn) (noted : List Slot) (b : Board) (w : Option Want) → own_for rule c turn (opened noted) b w ≡ own_for rule c turn (opened []) b w
own-same rule c turn noted b None = refl
own-same rule c turn noted b (Some w) = refl

due-at-once : (rule : Rule) (c : Config) (turn : Turn) (noted : List Slot) (b : Board) (e : Entry) → IsDue rule c turn (opened noted) b e → IsDue rule c turn (opened []) b e
due-at-once rule c turn noted b (row t k o r p) h = sym (own-same rule c turn noted b (want_of c.geometry turn.row.op)) ∙ h
due-at-once rule c turn noted b (note q card holder slot) h = (h.0, record { from_outside = h.1.from_outside; refers = h.1.refers; new_card = h.1.new_card; of_the_slot = h.1.of_the_slot; once = refl })
due-at-once rule c turn noted b e h = h

or-left : (x y : Bool) → x ≡ true → (x || y) ≡ true
or-left true y h = refl
or-left false y h = cc

or-right : (x y : Bool) → y ≡ true → (x || y) ≡ true
or-right true y h = refl
or-right false y h = h

stands-for : (rule : Rule) (c : Config) (rows : List Row) (r : Row) (before : List Entry) (e : Entry) → Stand rule c rows r.thread r before e
    → may_stand_for rule c (stage_behind rule c (board_of c before) (last_event before)) before (board_of c before) e r ≡ true
stands-for rule c rows r before e stand =
    let turn = turn_after before r in
    let b = board_of c before in
    let behind = stage_behind rule c b (last_event before) in
    elim stand.known [
      | inl k ↦ or-left _ _ ((is_due rule c turn (opened []) b e).decides.1 (due-at-once rule c turn k.0 b e (subst (λ (s : Stage). IsDue rule c turn s b e) k.1 stand.due)))
      | inr k ↦ or-right (is_due rule c turn (opened []) b e).test _ ((is_due rule c turn behind b e).decides.1 (subst (λ (s : Stage). IsDue rule c turn s b e) k stand.due))
    ]

-- a row of a thread that passes two tests is found by the second among those that pass the first
pub found : (passes wanted : Row → Bool) (t : ℕ) (rows : List Row) (i : ℕ) (r : Row) → slice_get (rows_of t rows) i ≡ Some r → passes r ≡ true → wanted r ≡ true
    → list_any wanted (filter passes rows) ≡ true
found passes wanted t [] i r h p w = cc
found passes wanted t (q ∷ rows) i r h p w = by-thread (λ i h. found passes wanted t rows i r h p w) (q.thread == t) i h
  where
    -- the test passes in the rest of the rows, so in all of them
    later : list_any wanted (filter passes rows) ≡ true → (b : Bool) → list_any wanted (cond b (q ∷ filter passes rows) (filter passes rows)) ≡ true
    later h true = or-right (wanted q) _ h
    later h false = h

    here : q ≡ r → (b : Bool) → passes q ≡ b → list_any wanted (cond b (q ∷ filter passes rows) (filter passes rows)) ≡ true
    here e true same = or-left _ _ (ap wanted e ∙ w)
    here e false same = cc (ap passes e)

    by-thread : ((i : ℕ) → slice_get (rows_of t rows) i ≡ Some r → list_any wanted (filter passes rows) ≡ true) → (b : Bool) (i : ℕ)
        → slice_get (cond b (q ∷ rows_of t rows) (rows_of t rows)) i ≡ Some r → list_any wanted (filter passes (q ∷ rows)) ≡ true
    by-thread on true zero h = here (cc) (passes q) refl
    by-thread on true (suc i) h = later (on i h) (passes q)
    by-thread on false i h = later (on i h) (passes q)

may-stand : (rule : Rule) (c : Config) (rows : List Row) (before : List Entry) (e : Entry) → Place rule c rows before e → may_stand rule c rows before e ≡ true
may-stand rule c rows before e place =
    let r = place.row in
    let mine : place.thread ≡ r.thread = sym (thread-of place.thread rows (done_by place.thread before) r place.next) in
    let next : slice_get (rows_of r.thread rows) (done_by r.thread before) ≡ Some r = subst (λ (t : ℕ). slice_get (rows_of t rows) (done_by t before) ≡ Some r) mine place.next in
    let stand : Stand rule c rows r.thread r before e = subst (λ (t : ℕ). Stand rule c rows t r before e) mine place.stand in
    found (is_next rows before) _ r.thread rows (done_by r.thread before) r next
    ((equal (options row_equality) (slice_get (rows_of r.thread rows) (done_by r.thread before)) (Some r)).decides.1 next)
    (stands-for rule c rows r before e stand)

-- if the event cannot stand there, no run goes on with it
pub refused-at : (c : Config) (rows : List Row) (before : List Entry) (e : Entry) (behind : List Entry) → may_stand whole c rows before e ≡ false → IsRun whole c rows (before ++ e ∷ behind) → ⊥
refused-at c rows before e behind h run =
    let stands = may-stand whole c rows before e (in-pieces whole c rows [] run.pieces before e behind run.each_next run.cut) in
    cc

-- so is a worked journal with another event in one place
pub refused-there : (w : Wrong) → slice_get w.worked.journal w.place ≡ Some w.right
    → may_stand whole w.worked.config w.worked.rows (take w.place w.worked.journal) w.wrong ≡ false → IsRefusedThere w
refused-there w stands h = record {
  stands = stands;
  refused = λ behind. refused-at w.worked.config w.worked.rows (take w.place w.worked.journal) w.wrong behind h;
}
