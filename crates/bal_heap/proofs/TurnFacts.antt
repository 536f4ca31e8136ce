-- How the places of a thread's rows stand for its rows.
use Rattle.std.proofs.Common.{◌≡◌, ◌<◌, ◌≤◌, ◌+◌, ℕ, zero, suc, List, [], ◌∷◌, ◌++◌, length, map, get_or, set, Option, None, Some, Bool, true, false, cond, eqb, refl, ap, sym, subst, ◌∙◌, arith, append_assoc, length-append, ◌^◌, replicate}
use Rattle.std.specs.Prelude.{slice_get, option_and_then}
use Rattle.bal_model.specs.declared.row.Row.{Row}
use Rattle.bal_rules.specs.Run.{rows_of}
use Rattle.std.specs.Prelude.{IsSome}
use Rattle.std.specs.Vec.{with_item}
use Rattle.std.proofs.lemmas.Bool.{eqb-false, eqb-true, eq-eqb}
use Rattle.std.proofs.lemmas.List.{append-nil, get_or-map, get_or-set_same, get_or-set_other, length-set}
use Rattle.std.proofs.lemmas.Option.{slice_get_within}
use Rattle.bal_heap.specs.Turns.{Progress, places_from, next_of, done_of}
use Rattle.bal_heap.specs.Queues.{HasQueues, IsQueueOf, done_in, progress_of}
use Rattle.bal_heap.specs.declared.turns.Queue.{Queue}
use Rattle.bal_heap.specs.declared.turns.Turns.TheInside.{Inside}

-- an element behind a front
slice_get-behind : {X : Type 0} (xs : List X) (x : X) (ys : List X) → slice_get (xs ++ x ∷ ys) (length xs) ≡ Some x
slice_get-behind [] x ys = refl
slice_get-behind (y ∷ xs) x ys = slice_get-behind xs x ys

-- there are as many places as rows
pub length-places_from : (n t : ℕ) (rows : List Row) → length (places_from n t rows) ≡ length (rows_of t rows)
length-places_from n t [] = refl
length-places_from n t (r ∷ rs) = by (eqb r.thread t) (length-places_from (n + 1) t rs)
  where
    by : (b : Bool) → length (places_from (n + 1) t rs) ≡ length (rows_of t rs)
        → length (cond b (n ∷ places_from (n + 1) t rs) (places_from (n + 1) t rs)) ≡ length (cond b (r ∷ rows_of t rs) (rows_of t rs))
    by true e = ap suc e
    by false e = e

-- the row at the k-th place is the k-th row of the thread, among rows that stand behind others
pub rows-behind : (t : ℕ) (before rows : List Row) (k : ℕ)
    → option_and_then (slice_get (before ++ rows)) (slice_get (places_from (length before) t rows) k) ≡ slice_get (rows_of t rows) k
rows-behind t before [] k = refl
rows-behind t before (r ∷ rs) k =
    by (eqb r.thread t) k (λ j. subst (λ (n : ℕ). option_and_then (slice_get (before ++ r ∷ rs)) (slice_get (places_from n t rs) j) ≡ slice_get (rows_of t rs) j) (length-append before (r ∷ []))
    (subst (λ (xs : List Row). option_and_then (slice_get xs) (slice_get (places_from (length (before ++ r ∷ [])) t rs) j) ≡ slice_get (rows_of t rs) j) (append_assoc before (r ∷ []) rs) (rows-behind t (before ++ r ∷ []) rs j)))
  where
    by : (b : Bool) (k : ℕ) → ((j : ℕ) → option_and_then (slice_get (before ++ r ∷ rs)) (slice_get (places_from (length before + 1) t rs) j) ≡ slice_get (rows_of t rs) j)
        → option_and_then (slice_get (before ++ r ∷ rs)) (slice_get (cond b (length before ∷ places_from (length before + 1) t rs) (places_from (length before + 1) t rs)) k) ≡ slice_get (cond b (r ∷ rows_of t rs) (rows_of t rs)) k
    by true zero h = slice_get-behind before r rs
    by true (suc k) h = h k
    by false k h = h k

-- the row at the k-th place is the k-th row of the thread
pub rows-at : (t : ℕ) (rows : List Row) (k : ℕ) → option_and_then (slice_get rows) (slice_get (places_from 0 t rows) k) ≡ slice_get (rows_of t rows) k
rows-at t rows k = rows-behind t [] rows k

-- the places of a thread's rows among rows with one more at the end
pub places_from-push : (n t : ℕ) (rows : List Row) (r : Row) → places_from n t (rows ++ r ∷ []) ≡ places_from n t rows ++ cond (eqb r.thread t) ((n + length rows) ∷ []) []
places_from-push n t [] r = ap (λ m. cond (eqb r.thread t) (m ∷ []) []) (omega arith)
places_from-push n t (q ∷ rs) r = by (eqb q.thread t) (places_from-push (n + 1) t rs r ∙ ap (λ m. places_from (n + 1) t rs ++ cond (eqb r.thread t) (m ∷ []) []) (omega arith))
  where
    by : (b : Bool) → places_from (n + 1) t (rs ++ r ∷ []) ≡ places_from (n + 1) t rs ++ cond (eqb r.thread t) ((n + length (q ∷ rs)) ∷ []) []
        → cond b (n ∷ places_from (n + 1) t (rs ++ r ∷ [])) (places_from (n + 1) t (rs ++ r ∷ [])) ≡ cond b (n ∷ places_from (n + 1) t rs) (places_from (n + 1) t rs) ++ cond (eqb r.thread t) ((n + length (q ∷ rs)) ∷ []) []
    by true e = ap (λ (ps : List ℕ). n ∷ ps) e
    by false e = e

-- a thread has no more rows than the trace
pub length-rows_of-le : (t : ℕ) (rows : List Row) → length (rows_of t rows) ≤ length rows
length-rows_of-le t [] = omega arith
length-rows_of-le t (r ∷ rs) = by (eqb r.thread t) (length-rows_of-le t rs)
  where
    by : (b : Bool) → length (rows_of t rs) ≤ length rs → length (cond b (r ∷ rows_of t rs) (rows_of t rs)) ≤ length (r ∷ rs)
    by true h = omega arith
    by false h = omega arith

-- where a thread has a next row, fewer of its rows were executed than there are
pub next-within : (p : Progress) (t : ℕ) → IsSome (next_of p t) → done_of p t < length (rows_of t p.rows)
next-within p t h = by (next_of p t) refl h
  where
    by : (o : Option Row) → next_of p t ≡ o → IsSome o → done_of p t < length (rows_of t p.rows)
    by None e h = cc h
    by (Some r) e h = slice_get_within (rows_of t p.rows) (done_of p t) r e

-- what a queue says of its thread's progress
pub done-at : (a : Inside) (t : ℕ) (q : Queue) → HasQueues a → t < 32 → q ≡ get_or a.queues.items t q → done_of (progress_of a) t ≡ q.done
done-at a t q h lt e = get_or-map done_in a.queues.items t q 0 (omega (arith, h.queues)) ∙ ap done_in (sym e)

pub queue-at : (a : Inside) (t : ℕ) (q : Queue) → HasQueues a → t < 32 → q ≡ get_or a.queues.items t q → IsQueueOf a.trace.rows.list t q
queue-at a t q h lt e = subst (IsQueueOf a.trace.rows.list t) (sym e) (h.each t q lt)

-- a queue in which more rows were executed
pub HasQueues-replaced : (a : Inside) (t : ℕ) (q : Queue) → HasQueues a → t < 32 → IsQueueOf a.trace.rows.list t q → HasQueues (record { trace = a.trace; queues = with_item a.queues t q })
HasQueues-replaced a t q h lt new = record {
  few = h.few;
  queues = length-set a.queues.items t q ∙ h.queues;
  each = λ u d less. by u d less (eqb u t) refl;
}
  where
    by : (u : ℕ) (d : Queue) → u < 32 → (b : Bool) → eqb u t ≡ b → IsQueueOf a.trace.rows.list u (get_or (set a.queues.items t q) u d)
    by u d less true e =
        let same : u ≡ t = eqb-true u t e in
        subst (λ (v : ℕ). IsQueueOf a.trace.rows.list v (get_or (set a.queues.items t q) v d)) (sym same) (rw (get_or-set_same a.queues.items t q d (omega (arith, h.queues))) new)
    by u d less false e = rw (get_or-set_other a.queues.items t u q d (eqb-false u t e)) (h.each u d less)

-- while the queues are made: each has the places of its thread's rows so far, and none was executed
pub record IsFresh (rows : List Row) (t : ℕ) (q : Queue) : Type 0 where
  pub places : q.places.list ≡ places_from 0 t rows
  pub done : q.done ≡ 0

abbrev pub AreFresh : List Queue → List Row → Type 0
AreFresh qs rows = (t : ℕ) (d : Queue) → t < 32 → IsFresh rows t (get_or qs t d)

-- one more row goes to the queue of its thread
pub AreFresh-more : (qs : List Queue) (rows : List Row) (r : Row) (q q' : Queue) → length qs ≡ 32 → r.thread < 32 → AreFresh qs rows → q ≡ get_or qs r.thread q
    → q'.places.list ≡ q.places.list ++ length rows ∷ [] → q'.done ≡ q.done → AreFresh (set qs r.thread q') (rows ++ r ∷ [])
AreFresh-more qs rows r q q' len lt h e places done u d less = by (eqb r.thread u) refl
  where
    old : IsFresh rows r.thread q
    old = subst (IsFresh rows r.thread) (sym e) (h r.thread q lt)

    by : (b : Bool) → eqb r.thread u ≡ b → IsFresh (rows ++ r ∷ []) u (get_or (set qs r.thread q') u d)
    by true same =
        let is : r.thread ≡ u = eqb-true r.thread u same in
        let pushed = places_from-push 0 r.thread rows r ∙ ap (λ b. places_from 0 r.thread rows ++ cond b ((0 + length rows) ∷ []) []) (eq-eqb r.thread r.thread refl) in
        subst (λ (v : ℕ). IsFresh (rows ++ r ∷ []) v (get_or (set qs r.thread q') v d)) is
        (rw (get_or-set_same qs r.thread q' d (omega arith)) (record {
          places = places ∙ ap (λ (ps : List ℕ). ps ++ length rows ∷ []) old.places ∙ ap (λ m. places_from 0 r.thread rows ++ m ∷ []) (omega arith) ∙ sym pushed;
          done = done ∙ old.done;
        }))
    by false other =
        let pushed = places_from-push 0 u rows r ∙ ap (λ b. places_from 0 u rows ++ cond b ((0 + length rows) ∷ []) []) other ∙ append-nil (places_from 0 u rows) in
        let ne : u ≡ r.thread → ⊥ = λ same. eqb-false r.thread u other (sym same) in
        rw (get_or-set_other qs r.thread u q' d ne) (record { places = (h u d less).places ∙ sym pushed; done = (h u d less).done })

-- once all rows are in the queues
pub HasQueues-fresh : (a : Inside) → length a.trace.rows.list ≤ 2 ^ 20 → length a.queues.items ≡ 32 → AreFresh a.queues.items a.trace.rows.list → HasQueues a
HasQueues-fresh a few len h = record {
  few = few;
  queues = len;
  each = λ t d lt. record { places = (h t d lt).places; within = omega (arith, (h t d lt).done) };
}

-- and no row was executed
pub progress-fresh : (qs : List Queue) (n : ℕ) → length qs ≡ n → ((t : ℕ) (d : Queue) → t < n → (get_or qs t d).done ≡ 0) → map done_in qs ≡ replicate n 0
progress-fresh [] n e h = ap (λ m. replicate m 0) e
progress-fresh (q ∷ qs) zero e h = absurd (omega (arith, e))
progress-fresh (q ∷ qs) (suc n) e h =
    ap (λ (z : ℕ). z ∷ map done_in qs) (h 0 q (omega arith)) ∙ ap (λ (zs : List ℕ). 0 ∷ zs) (progress-fresh qs n (omega (arith, e)) (λ t d lt. h (suc t) d (omega arith)))

-- the next row of a thread, by its queue
pub next-at : (a : Inside) (t : ℕ) (q : Queue) → HasQueues a → t < 32 → q ≡ get_or a.queues.items t q
    → option_and_then (slice_get a.trace.rows.list) (slice_get q.places.list q.done) ≡ next_of (progress_of a) t
next-at a t q h lt e =
    ap (λ (ps : List ℕ). option_and_then (slice_get a.trace.rows.list) (slice_get ps q.done)) (queue-at a t q h lt e).places
    ∙ rows-at t a.trace.rows.list q.done ∙ ap (λ k. slice_get (rows_of t a.trace.rows.list) k) (sym (done-at a t q h lt e))

-- no queue is longer than the trace may be
pub queue-within : (a : Inside) (t : ℕ) (q : Queue) → HasQueues a → t < 32 → q ≡ get_or a.queues.items t q
    → (length q.places.list ≡ length (rows_of t a.trace.rows.list)) × (length q.places.list ≤ 2 ^ 20) × (q.done ≤ length q.places.list)
queue-within a t q h lt e =
    let same : length q.places.list ≡ length (rows_of t a.trace.rows.list) = ap length (queue-at a t q h lt e).places ∙ length-places_from 0 t a.trace.rows.list in
    let few : length q.places.list ≤ 2 ^ 20 = omega (arith, same, length-rows_of-le t a.trace.rows.list, h.few) in
    (same, few, (queue-at a t q h lt e).within)
