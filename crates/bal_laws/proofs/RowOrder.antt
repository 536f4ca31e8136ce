-- The row events of a run: numbered from 1 by thread, and each thread's in the order of its rows.
use Rattle.std.proofs.Common.{◌≡◌, ◌+◌, ◌==◌, inl, inr, ℕ, List, [], ◌∷◌, ◌++◌, Bool, true, false, cond, Some, length, take, refl, ap, sym, subst, ◌∙◌, arith, length-append}
use Rattle.std.specs.Prelude.{slice_get}
use Rattle.std.specs.List.{range_with_len}
use Rattle.std.proofs.lemmas.Bool.{eqb-true, cases_Bool}
use Rattle.std.proofs.lemmas.List.{append-nil, map-id, take_more}
use Rattle.std.proofs.lemmas.List.Elements.{filter-append}
use Rattle.std.proofs.lemmas.List.FromFn.{map-range_with_len_more}
use Rattle.std.proofs.lemmas.Option.{slice_get_within, get_or_from_slice_get}
use Rattle.bal_model.specs.declared.config.Config.{Config}
use Rattle.bal_model.specs.declared.row.Row.{Row}
use Rattle.bal_rules.specs.Board.{Board}
use Rattle.bal_model.specs.Entries.{Entry, row, executed}
use Rattle.bal_rules.specs.Interim.{Rule}
use Rattle.bal_rules.specs.Path.{Turn, Stage, own_at, IsLegal}
use Rattle.bal_rules.specs.Run.{IsRun, rows_of, done_by, board_of}
use Rattle.bal_laws.specs.Replies.{numbers_of}
use Rattle.bal_rules.proofs.Lemmas.{IsTurn, executed-append, executed-legal, journal-keeps, legal-no-row, own-event}

-- a range with one number more
range-more : (n : ℕ) → range_with_len 1 (n + 1) ≡ range_with_len 1 n ++ (n + 1) ∷ []
range-more n = sym (map-id (range_with_len 1 (n + 1))) ∙ map-range_with_len_more (λ (x : ℕ). x) 1 n (n + 1) (omega arith) ∙ ap (λ (l : List ℕ). l ++ (n + 1) ∷ []) (map-id (range_with_len 1 n))

numbers-append : (t : ℕ) (xs ys : List Entry) → numbers_of t (xs ++ ys) ≡ numbers_of t xs ++ numbers_of t ys
numbers-append t [] ys = refl
numbers-append t (row u k o r p ∷ xs) ys = by (u == t) (numbers-append t xs ys)
  where
    by : (b : Bool) → numbers_of t (xs ++ ys) ≡ numbers_of t xs ++ numbers_of t ys → cond b (k ∷ numbers_of t (xs ++ ys)) (numbers_of t (xs ++ ys)) ≡ cond b (k ∷ numbers_of t xs) (numbers_of t xs) ++ numbers_of t ys
    by true e = ap (λ (l : List ℕ). k ∷ l) e
    by false e = e
numbers-append t (e ∷ xs) ys = numbers-append t xs ys

-- no event before a row's own one has a number
numbers-legal : (rule : Rule) (c : Config) (turn : Turn) (stage : Stage) (b : Board) (e : Entry) (t : ℕ) → IsLegal rule c turn stage b e → numbers_of t (e ∷ []) ≡ []
numbers-legal rule c turn stage b (row u k o r p) t h = absurd (legal-no-row rule c turn stage b u k o r p h)
numbers-legal rule c turn stage b e t h = refl

-- the row event of a turn has its number, and executes its row
pub record IsOfTurn (turn : Turn) (e : Entry) : Type 0 where
  pub executes : executed (e ∷ []) ≡ turn.row ∷ []
  pub numbered : (t : ℕ) → numbers_of t (e ∷ []) ≡ cond (turn.row.thread == t) (turn.number ∷ []) []

pub of-turn : (rule : Rule) (c : Config) (turn : Turn) (stage : Stage) (b : Board) (e : Entry) → own_at rule c turn stage b ≡ Some e → IsOfTurn turn e
of-turn rule c turn stage b e own = own-event (IsOfTurn turn) rule c turn stage b e
    (λ none. record { executes = refl; numbered = λ t. refl })
    (λ w asks. record { executes = refl; numbered = λ t. refl })
    (λ w asks full. record { executes = refl; numbered = λ t. refl })
    own

-- of each thread the numbers count from 1, and the rows are the first of its rows
pub record IsInOrder (rows : List Row) (entries : List Entry) (t : ℕ) : Type 0 where
  pub numbers : numbers_of t entries ≡ range_with_len 1 (done_by t entries)
  pub rows_in_order : rows_of t (executed entries) ≡ take (done_by t entries) (rows_of t rows)

-- an event that is no row's leaves the order
order-legal : (rule : Rule) (c : Config) (rows : List Row) (turn : Turn) (stage : Stage) (before : List Entry) (e : Entry) (t : ℕ) → IsInOrder rows before t
    → IsLegal rule c turn stage (board_of c before) e → IsInOrder rows (before ++ e ∷ []) t
order-legal rule c rows turn stage before e t h le =
    let b = board_of c before in
    let same : executed (before ++ e ∷ []) ≡ executed before =
    executed-append before (e ∷ []) ∙ ap (λ (rs : List Row). executed before ++ rs) (executed-legal rule c turn stage b e le) ∙ append-nil (executed before) in
    let done : done_by t (before ++ e ∷ []) ≡ done_by t before = ap (λ (rs : List Row). length (rows_of t rs)) same in
    record {
      numbers = numbers-append t before (e ∷ []) ∙ ap (λ (l : List ℕ). numbers_of t before ++ l) (numbers-legal rule c turn stage b e t le) ∙ append-nil (numbers_of t before)
          ∙ h.numbers ∙ ap (range_with_len 1) (sym done);
      rows_in_order = ap (rows_of t) same ∙ h.rows_in_order ∙ ap (λ (n : ℕ). take n (rows_of t rows)) (sym done);
    }

-- the row event of a thread's next row goes on with it
order-own : (rows : List Row) (turn : Turn) (before : List Entry) (e : Entry) (t : ℕ) → IsInOrder rows before t → IsTurn rows before turn → IsOfTurn turn e → IsInOrder rows (before ++ e ∷ []) t
order-own rows turn before e t h next is = elim (cases_Bool (turn.row.thread == t)) [
  | inl mine ↦ (
      let at : turn.row.thread ≡ t = eqb-true turn.row.thread t mine in
      let n = done_by t before in
      let number : turn.number ≡ n + 1 = next.number ∙ ap (λ (u : ℕ). done_by u before + 1) at in
      let row_at : slice_get (rows_of t rows) n ≡ Some turn.row = subst (λ (u : ℕ). slice_get (rows_of u rows) (done_by u before) ≡ Some turn.row) at next.next in
      let new : rows_of t (turn.row ∷ []) ≡ turn.row ∷ [] = ap (λ (b : Bool). cond b (turn.row ∷ []) []) mine in
      let all : rows_of t (executed (before ++ e ∷ [])) ≡ rows_of t (executed before) ++ turn.row ∷ [] = parts ∙ ap (λ (rs : List Row). rows_of t (executed before) ++ rs) new in
      let done : done_by t (before ++ e ∷ []) ≡ n + 1 = ap length all ∙ length-append (rows_of t (executed before)) (turn.row ∷ []) in
      record {
        numbers = numbers-append t before (e ∷ []) ∙ ap (λ (l : List ℕ). numbers_of t before ++ l) (is.numbered t ∙ ap (λ (b : Bool). cond b (turn.number ∷ []) []) mine ∙ ap (λ (k : ℕ). k ∷ []) number)
            ∙ ap (λ (l : List ℕ). l ++ (n + 1) ∷ []) h.numbers ∙ sym (range-more n) ∙ ap (range_with_len 1) (sym done);
        rows_in_order = all ∙ ap (λ (rs : List Row). rs ++ turn.row ∷ []) h.rows_in_order
            ∙ ap (λ (r : Row). take n (rows_of t rows) ++ r ∷ []) (sym (get_or_from_slice_get (rows_of t rows) n turn.row turn.row row_at))
            ∙ sym (take_more (rows_of t rows) n turn.row (slice_get_within (rows_of t rows) n turn.row row_at))
            ∙ ap (λ (n : ℕ). take n (rows_of t rows)) (sym done);
      }
      )
  | inr other ↦ (
      let new : rows_of t (turn.row ∷ []) ≡ [] = ap (λ (b : Bool). cond b (turn.row ∷ []) []) other in
      let all : rows_of t (executed (before ++ e ∷ [])) ≡ rows_of t (executed before) = parts ∙ ap (λ (rs : List Row). rows_of t (executed before) ++ rs) new ∙ append-nil (rows_of t (executed before)) in
      let done : done_by t (before ++ e ∷ []) ≡ done_by t before = ap length all in
      record {
        numbers = numbers-append t before (e ∷ []) ∙ ap (λ (l : List ℕ). numbers_of t before ++ l) (is.numbered t ∙ ap (λ (b : Bool). cond b (turn.number ∷ []) []) other) ∙ append-nil (numbers_of t before)
            ∙ h.numbers ∙ ap (range_with_len 1) (sym done);
        rows_in_order = all ∙ h.rows_in_order ∙ ap (λ (n : ℕ). take n (rows_of t rows)) (sym done);
      }
      )
]
  where
    parts : rows_of t (executed (before ++ e ∷ [])) ≡ rows_of t (executed before) ++ rows_of t (turn.row ∷ [])
    parts = ap (rows_of t) (executed-append before (e ∷ []) ∙ ap (λ (rs : List Row). executed before ++ rs) is.executes) ∙ filter-append (λ (r : Row). r.thread == t) (executed before) (turn.row ∷ [])

pub run-in-order : (rule : Rule) (c : Config) (rows : List Row) (entries : List Entry) → IsRun rule c rows entries → (t : ℕ) → IsInOrder rows entries t
run-in-order rule c rows entries run t = journal-keeps rule c rows (λ (es : List Entry). IsInOrder rows es t)
    (λ turn stage before e h next le. order-legal rule c rows turn stage before e t h le)
    (λ turn stage before e h next own. order-own rows turn before e t h next (of-turn rule c turn stage (board_of c before) e own))
    entries (record { numbers = refl; rows_in_order = refl }) run
