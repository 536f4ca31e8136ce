-- The order of the file: after the rows so far, the next row of the file is the next one of its thread.
use Rattle.std.proofs.Common.{◌≡◌, ◌<◌, ◌≤◌, ◌+◌, ℕ, zero, suc, List, [], ◌∷◌, ◌++◌, length, get_or, Some, Bool, true, false, cond, eqb, take, refl, ap, sym, subst, ◌∙◌, arith}
use Rattle.std.specs.Prelude.{slice_get}
use Rattle.std.specs.List.{AllByRecursion}
use Rattle.bal_layout.specs.Shape.{Shape}
use Rattle.std.proofs.lemmas.Bool.{eq-eqb}
use Rattle.std.proofs.lemmas.List.{take_more, take_all}
use Rattle.std.proofs.lemmas.Option.{slice_get_within, slice_get-get_or, get_or_from_slice_get, none-some, same_Some}
use Rattle.bal_model.specs.declared.config.Config.{Config}
use Rattle.bal_model.specs.declared.row.Row.{Row}
use Rattle.bal_model.specs.declared.row.Reply.{Reply}
use Rattle.bal_model.specs.Entries.{executed}
use Rattle.bal_rules.specs.Interim.{today}
use Rattle.bal_rules.specs.Path.{Turn, opened}
use Rattle.bal_rules.specs.Run.{IsWholeRun, MayComeNext, Piece, board_of, done_by, rows_of}
use Rattle.bal_rules.proofs.Lemmas.{IsWholeRun-more, IsWholeRun-none, executed-append, path-executes}
use Rattle.bal_heap.specs.Heap.{Begins, Executes, MeetsBoard, Told}
use Rattle.bal_replay.specs.Outcome.{IsWholeReplay}
use Rattle.bal_model.specs.Built.{IsTraceRow}

-- the heap has executed the first n rows of the file
pub record IsUnderWay (c : Config) (rows : List Row) (n : ℕ) (told : Told) : Type 0 where
  pub configured : told.config ≡ c
  pub traced : told.rows ≡ rows
  pub run : IsWholeRun today c rows told.entries
  pub file : executed told.entries ≡ take n rows
  pub meets : MeetsBoard told

-- among its thread's rows, a row of the file stands after those before it
pub row-of-file : (rows : List Row) (i : ℕ) (r : Row) → slice_get rows i ≡ Some r → slice_get (rows_of r.thread rows) (length (rows_of r.thread (take i rows))) ≡ Some r
row-of-file [] i r e = e
row-of-file (q ∷ rs) zero r e = rw (eq-eqb q.thread r.thread (ap (λ (x : Row). x.thread) (same_Some q r e))) e
row-of-file (q ∷ rs) (suc i) r e = by (eqb q.thread r.thread) (row-of-file rs i r e)
  where
    by : (b : Bool) → slice_get (rows_of r.thread rs) (length (rows_of r.thread (take i rs))) ≡ Some r
        → slice_get (cond b (q ∷ rows_of r.thread rs) (rows_of r.thread rs)) (length (cond b (q ∷ rows_of r.thread (take i rs)) (rows_of r.thread (take i rs)))) ≡ Some r
    by true h = h
    by false h = h

-- the next row of the file is the next one of its thread
pub next-of-file : (c : Config) (rows : List Row) (n : ℕ) (told : Told) (r : Row) → IsUnderWay c rows n told → slice_get rows n ≡ Some r
    → slice_get (rows_of r.thread told.rows) (done_by r.thread told.entries) ≡ Some r
next-of-file c rows n told r h e =
    ap (λ (xs : List Row). slice_get (rows_of r.thread xs) (done_by r.thread told.entries)) h.traced
    ∙ ap (λ (xs : List Row). slice_get (rows_of r.thread rows) (length (rows_of r.thread xs))) h.file ∙ row-of-file rows n r e

-- one more row was executed
pub under-way-more : (c : Config) (rows : List Row) (n : ℕ) (told told' : Told) (r : Row) (reply : Reply) → IsUnderWay c rows n told → slice_get rows n ≡ Some r
    → Executes told told' r.thread reply → IsUnderWay c rows (n + 1) told'
under-way-more c rows n told told' r reply h e done =
    let piece : Piece = record { thread = r.thread; whole = true; events = done.path } in
    let next : MayComeNext today c rows told.entries piece =
    subst (λ (x : Config). MayComeNext today x rows told.entries piece) h.configured (subst (λ (xs : List Row). MayComeNext today told.config xs told.entries piece) h.traced done.next) in
    let turn : Turn = record { row = next.row; number = done_by r.thread told.entries + 1 } in
    let same : next.row ≡ r = same_Some next.row r (sym next.next ∙ ap (λ (xs : List Row). slice_get (rows_of r.thread xs) (done_by r.thread told.entries)) (sym h.traced) ∙ next-of-file c rows n told r h e) in
    let path : executed done.path ≡ r ∷ [] =
    path-executes today c turn done.path (opened []) (board_of c told.entries) next.path ∙ ap (λ (x : Row). x ∷ []) same in
    let grown : executed told'.entries ≡ take n rows ++ r ∷ [] =
    ap executed done.grows ∙ executed-append told.entries done.path ∙ ap (λ (xs : List Row). xs ++ executed done.path) h.file ∙ ap (λ (xs : List Row). take n rows ++ xs) path in
    let more : take (n + 1) rows ≡ take n rows ++ r ∷ [] =
    take_more rows n r (slice_get_within rows n r e) ∙ ap (λ (x : Row). take n rows ++ x ∷ []) (get_or_from_slice_get rows n r r e) in
    record {
      configured = done.config ∙ h.configured;
      traced = done.rows ∙ h.traced;
      run = subst (IsWholeRun today c rows) (sym done.grows) (IsWholeRun-more today c rows told.entries piece h.run next refl);
      file = grown ∙ sym more;
      meets = done.meets;
    }

-- a heap that has told nothing
pub under-way-none : (c : Config) (rows : List Row) (told : Told) → Begins c rows told → IsUnderWay c rows 0 told
under-way-none c rows told begins = record {
  configured = begins.config_is;
  traced = begins.rows_are;
  run = subst (IsWholeRun today c rows) (sym begins.entries) (IsWholeRun-none today c rows);
  file = ap executed begins.entries;
  meets = begins.meets;
}

-- all rows were executed
pub whole-replay : (c : Config) (rows : List Row) (n : ℕ) (told : Told) → IsUnderWay c rows n told → length rows ≤ n → IsWholeReplay c rows told
whole-replay c rows n told h le =
    let all : executed told.entries ≡ rows = h.file ∙ take_all n rows le in
    record {
      configured = h.configured;
      traced = h.traced;
      run = h.run;
      complete = λ t. ap (λ (xs : List Row). length (rows_of t xs)) all;
      in_order = all ∙ sym (take_all (length (executed told.entries)) rows (omega (arith, ap length all)));
      meets = h.meets;
    }

-- the row at hand is the next one of the file
pub row-here : (c : Config) (rows : List Row) (n : ℕ) (told : Told) (xs ys : List Row) (d : Row) → IsUnderWay c rows n told → xs ≡ told.rows → ys ≡ rows → n < length ys
    → slice_get rows n ≡ Some (get_or xs n d)
row-here c rows n told xs ys d h e f lt =
    slice_get-get_or rows n d (subst (λ (zs : List Row). n < length zs) f lt) ∙ ap (λ (zs : List Row). Some (get_or zs n d)) (sym (e ∙ h.traced))

-- each row of a trace is one
pub each-row-at : (s : Shape) (rows : List Row) (n : ℕ) (r : Row) → AllByRecursion (IsTraceRow s) rows → slice_get rows n ≡ Some r → IsTraceRow s r
each-row-at s [] n r each e = absurd (none-some r e)
each-row-at s (q ∷ rs) zero r each e = subst (IsTraceRow s) (same_Some q r e) each.0
each-row-at s (q ∷ rs) (suc n) r each e = each-row-at s rs n r each.1 e

-- so its thread has not ended
pub not-ended : (c : Config) (rows : List Row) (n : ℕ) (told : Told) (r : Row) → IsUnderWay c rows n told → slice_get rows n ≡ Some r
    → length (rows_of r.thread told.rows) ≤ done_by r.thread told.entries → ⊥
not-ended c rows n told r h e le =
    absurd (omega (arith, slice_get_within (rows_of r.thread told.rows) (done_by r.thread told.entries) r (next-of-file c rows n told r h e)))
