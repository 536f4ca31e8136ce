-- What two readings of the same bytes have in common.
use Rattle.std.proofs.Common.{◌≡◌, ◌<◌, ◌≤◌, ◌^◌, ◌++◌, ◌∷◌, ℕ, List, [], Some, None, length, map, refl, ap, inl, inr, sym, subst, ◌∙◌, arith}
use Rattle.std.specs.List.{AllByRecursion}
use Rattle.std.proofs.lemmas.Bool.{cases_lt}
use Rattle.csv.specs.Machine.{Read, next_record}
use Rattle.csv.specs.Reading.{AreRecords, Reached, default_config, strip_bom}
use Rattle.csv.specs.declared.parser.State.{State}
use Rattle.csv.specs.declared.parser.State.TheVariants as st
use Rattle.bal_layout.specs.Shape.{IsShape, Shape, largest_of}
use Rattle.bal_model.specs.declared.row.Row.{Row}
use Rattle.bal_model.specs.Spelling.{fields}
use Rattle.bal_model.specs.Built.{IsTraceRow}
use Rattle.bal_rows.specs.Causes.{HasCause}
use Rattle.bal_rows.specs.Trace.{HasBadRecord, IsBadBehind, IsTrace}
use Rattle.bal_rows.specs.declared.cause.RowCause.{RowCause}
use Rattle.bal_rows.proofs.CauseFacts.{no-cause, one-cause}
use Rattle.bal_rows.proofs.RowFacts.{IsSmall-row, fields_injective}

-- the same start has one next record
one_next : (state : State) (xs : List ℕ) (p q : Read) → next_record default_config state [] [] xs ≡ Some p
    → next_record default_config state [] [] xs ≡ Some q → p ≡ q
one_next state xs p q e f = let same : Some p ≡ Some q = sym e ∙ f in cc

-- after the last record there is none
no_next : (state last : State) (xs ys : List ℕ) (p : Read) → state ≡ last → xs ≡ ys → next_record default_config last [] [] ys ≡ None
    → next_record default_config state [] [] xs ≡ Some p → ⊥
no_next state last xs ys p e f none some = let clash : None ≡ Some p = sym none ∙ rw (sym e, sym f) some in cc

-- where the records are rows, a record that is reached is one of them
pub reached_row : (s : Shape) (state : State) (xs : List ℕ) (rows front : List Row) (bad : List (List ℕ)) (after : State) (rest : List ℕ)
    → AreRecords default_config state xs (map fields rows) → AllByRecursion (IsTraceRow s) rows
    → Reached default_config state xs (map fields front ++ bad ∷ []) after rest
    → (r : Row) × IsTraceRow s r × (bad ≡ fields r) × (length front < length rows)
unfolding Reached
reached_row s state xs [] [] bad after rest all is reached = absurd (no_next state all.0 xs all.1 reached.0 all.2.0 all.2.1 all.3 reached.1)
reached_row s state xs [] (q ∷ front) bad after rest all is reached = absurd (no_next state all.0 xs all.1 reached.0 all.2.0 all.2.1 all.3 reached.1)
reached_row s state xs (r ∷ rows) [] bad after rest all is reached =
    let same = one_next state xs all.2.0 reached.0 all.2.1 reached.1 in
    (r, is.0, reached.2 ∙ ap (λ (p : Read). p.0) (sym same) ∙ sym all.2.2, omega arith)
reached_row s state xs (r ∷ rows) (q ∷ front) bad after rest all is reached =
    let same = one_next state xs all.2.0 reached.0 all.2.1 reached.1 in
    let Reads : Read → Type 0 = λ p. Reached default_config p.1 p.2 (map fields front ++ bad ∷ []) after rest in
    let (found, is_row, e, below) = reached_row s all.2.0.1 all.2.0.2 rows front bad after rest (all.0, all.1, all.2.3, all.3) is.1 (subst Reads (sym same) reached.3) in
    (found, is_row, e, omega arith)

-- two lists of rows that are spelled by all records are one
pub one_reading : (s : Shape) (state : State) (xs : List ℕ) (one other : List Row) → largest_of s < 2 ^ 32
    → AreRecords default_config state xs (map fields one) → AreRecords default_config state xs (map fields other)
    → AllByRecursion (IsTraceRow s) one → AllByRecursion (IsTraceRow s) other → one ≡ other
unfolding Reached
one_reading s state xs [] [] small a b is are = refl
one_reading s state xs [] (q ∷ other) small a b is are = absurd (no_next state a.0 xs a.1 b.2.0 a.2.0 a.2.1 a.3 b.2.1)
one_reading s state xs (r ∷ one) [] small a b is are = absurd (no_next state b.0 xs b.1 a.2.0 b.2.0 b.2.1 b.3 a.2.1)
one_reading s state xs (r ∷ one) (q ∷ other) small a b is are =
    let same = one_next state xs a.2.0 b.2.0 a.2.1 b.2.1 in
    let spelled : fields r ≡ fields q = a.2.2 ∙ ap (λ (p : Read). p.0) same ∙ sym b.2.2 in
    let first = fields_injective r q (IsSmall-row s r small is.0.in_range) (IsSmall-row s q small are.0.in_range) spelled in
    let Reads : Read → Type 0 = λ p. Reached default_config p.1 p.2 (map fields other) b.0 b.1 in
    let others = one_reading s a.2.0.1 a.2.0.2 one other small (a.0, a.1, a.2.3, a.3) (b.0, b.1, subst Reads (sym same) b.2.3, b.3) is.1 are.1 in
    cc

-- of two records that are reached, the one after fewer rows is a row before the other
reached_before : (s : Shape) (state : State) (xs : List ℕ) (rows more : List Row) (bad worse : List (List ℕ)) (a b : State) (ys zs : List ℕ)
    → Reached default_config state xs (map fields rows ++ bad ∷ []) a ys → Reached default_config state xs (map fields more ++ worse ∷ []) b zs
    → AllByRecursion (IsTraceRow s) more → length rows < length more → (r : Row) × IsTraceRow s r × (bad ≡ fields r)
unfolding Reached
reached_before s state xs [] [] bad worse a b ys zs one other is below = absurd (omega arith)
reached_before s state xs (r ∷ rows) [] bad worse a b ys zs one other is below = absurd (omega arith)
reached_before s state xs [] (q ∷ more) bad worse a b ys zs one other is below =
    let same = one_next state xs one.0 other.0 one.1 other.1 in
    (q, is.0, one.2 ∙ ap (λ (p : Read). p.0) same ∙ sym other.2)
reached_before s state xs (r ∷ rows) (q ∷ more) bad worse a b ys zs one other is below =
    let same = one_next state xs one.0 other.0 one.1 other.1 in
    let Reads : Read → Type 0 = λ p. Reached default_config p.1 p.2 (map fields more ++ worse ∷ []) b zs in
    reached_before s one.0.1 one.0.2 rows more bad worse a b ys zs one.3 (subst Reads (sym same) other.3) is.1 (omega arith)

-- two records that are reached after as many rows are one
reached_together : (state : State) (xs : List ℕ) (rows more : List Row) (bad worse : List (List ℕ)) (a b : State) (ys zs : List ℕ)
    → Reached default_config state xs (map fields rows ++ bad ∷ []) a ys → Reached default_config state xs (map fields more ++ worse ∷ []) b zs
    → length rows ≡ length more → bad ≡ worse
unfolding Reached
reached_together state xs [] [] bad worse a b ys zs one other counts =
    let same = one_next state xs one.0 other.0 one.1 other.1 in
    one.2 ∙ ap (λ (p : Read). p.0) same ∙ sym other.2
reached_together state xs [] (q ∷ more) bad worse a b ys zs one other counts = absurd (omega arith)
reached_together state xs (r ∷ rows) [] bad worse a b ys zs one other counts = absurd (omega arith)
reached_together state xs (r ∷ rows) (q ∷ more) bad worse a b ys zs one other counts =
    let same = one_next state xs one.0 other.0 one.1 other.1 in
    let Reads : Read → Type 0 = λ p. Reached default_config p.1 p.2 (map fields more ++ worse ∷ []) b zs in
    reached_together one.0.1 one.0.2 rows more bad worse a b ys zs one.3 (subst Reads (sym same) other.3) (omega arith)

-- a bad record comes after 2^20 rows at most
few-behind : (s : Shape) (count : ℕ) (cells : List (List ℕ)) (why : RowCause) → IsBadBehind s count cells why → count ≤ 2 ^ 20
few-behind s count cells why (inl full) = omega (arith, full.0)
few-behind s count cells why (inr has) = omega (arith, has.0)

-- a row that is not one too many is not bad
pub good-row : (s : Shape) (count : ℕ) (cells : List (List ℕ)) (why : RowCause) (r : Row) → largest_of s < 2 ^ 32 → count < 2 ^ 20
    → IsTraceRow s r → cells ≡ fields r → IsBadBehind s count cells why → ⊥
good-row s count cells why r small few is e (inl full) = omega (arith, full.0)
good-row s count cells why r small few is e (inr has) = no-cause s cells r why small is e has.1

-- a bad record has one cause
one-bad : (s : Shape) (m n : ℕ) (one other : List (List ℕ)) (c d : RowCause) → m ≡ n → one ≡ other → IsBadBehind s m one c → IsBadBehind s n other d → c ≡ d
one-bad s m n one other c d counts same (inl full) (inl more) = full.1 ∙ sym more.1
one-bad s m n one other c d counts same (inl full) (inr has) = absurd (omega (arith, counts, full.0, has.0))
one-bad s m n one other c d counts same (inr has) (inl full) = absurd (omega (arith, counts, full.0, has.0))
one-bad s m n one other c d counts same (inr a) (inr b) = one-cause s one c d a.1 (subst (λ cells. HasCause s cells d) (sym same) b.1)

-- no bad record comes before another
none-before : (s : Shape) (bytes : List ℕ) (m n : ℕ) (c d : RowCause) → largest_of s < 2 ^ 32 → (one : HasBadRecord s bytes m c) (other : HasBadRecord s bytes n d)
    → length one.rows < length other.rows → ⊥
none-before s bytes m n c d small one other below =
    let (r, is, e) = reached_before s st.StartRecord (strip_bom bytes) one.rows other.rows one.bad other.bad one.state other.state one.rest other.rest one.reached other.reached other.each_row below in
    let few = few-behind s (length other.rows) other.bad d other.is_bad in
    good-row s (length one.rows) one.bad c r small (omega arith) is e one.is_bad

pub one_bad_record : (s : Shape) (bytes : List ℕ) (m n : ℕ) (c d : RowCause) → largest_of s < 2 ^ 32 → HasBadRecord s bytes m c → HasBadRecord s bytes n d
    → (m ≡ n) × (c ≡ d)
one_bad_record s bytes m n c d small one other =
    let counts : length one.rows ≡ length other.rows = elim (cases_lt (length one.rows) (length other.rows)) [
      | inl below ↦ absurd (none-before s bytes m n c d small one other below)
      | inr above ↦ elim (cases_lt (length other.rows) (length one.rows)) [
        | inl below ↦ absurd (none-before s bytes n m d c small other one below)
        | inr same ↦ omega (arith, above, same)
      ]
    ] in
    let cells = reached_together st.StartRecord (strip_bom bytes) one.rows other.rows one.bad other.bad one.state other.state one.rest other.rest one.reached other.reached counts in
    (omega (arith, one.count, other.count, counts), one-bad s (length one.rows) (length other.rows) one.bad other.bad c d counts cells one.is_bad other.is_bad)

-- no bytes are a trace and have a bad record too
pub not-both : (s : Shape) (bytes : List ℕ) (rows : List Row) (number : ℕ) (why : RowCause) → IsShape s → IsTrace s bytes rows → HasBadRecord s bytes number why → ⊥
not-both s bytes rows number why shape trace bad =
    let (r, is, e, below) = reached_row s st.StartRecord (strip_bom bytes) rows bad.rows bad.bad bad.state bad.rest trace.spelled trace.each_row bad.reached in
    good-row s (length bad.rows) bad.bad why r (omega (arith, shape.most_words)) (omega (arith, trace.few)) is e bad.is_bad
