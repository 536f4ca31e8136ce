-- Each record is that of a row of a trace, or it has a cause.
use Rattle.std.proofs.Common.{◌≡◌, ◌<◌, ◌^◌, ◌∷◌, ◌⊎◌, ℕ, List, [], Option, None, Some, suc, length, map, refl, ap, inl, inr, sym, ◌∙◌, arith}
use Rattle.std.specs.Prelude.{Any, ◌≢◌}
use Rattle.std.specs.List.{AllByRecursion}
use Rattle.std.specs.Fmt.{decimal}
use Rattle.std.specs.Str.Parse.{digits_value}
use Rattle.std.proofs.lemmas.Bool.{cases_lt}
use Rattle.std.proofs.lemmas.Bool.Decides.{eqb_tells}
use Rattle.std.proofs.lemmas.List.{length-map}
use Rattle.bal_base.specs.Number.{SpellsNumber}
use Rattle.bal_layout.specs.Shape.{Shape}
use Rattle.bal_base.proofs.Lemmas.{IsSpelling-from_spelled}
use Rattle.bal_model.specs.declared.row.Row.{Row}
use Rattle.bal_model.specs.Spelling.{fields, op_numbers, spelling, word_of}
use Rattle.bal_model.specs.Built.{IsTraceRow}
use Rattle.bal_rows.specs.Causes.{HasCause, IsNoNumber, Spells, broken_by}
use Rattle.bal_rows.specs.Words.{count_of, op_from, row_from}
use Rattle.bal_rows.specs.declared.cause.RowCause.{RowCause}
use Rattle.bal_rows.specs.declared.cause.RowCause.TheVariants as cause
use Rattle.bal_model.specs.declared.row.Word.{Word}
use Rattle.bal_model.specs.declared.row.Word.TheVariants as word
use Rattle.bal_rows.proofs.LimitFacts.{limit-cause, row-within, unbroken}
use Rattle.bal_rows.proofs.RowFacts.{count-from, first-word, word-from, word_at, word_at-spelling}

-- two fields have the same bytes or not
both-same : (x y : ℕ) (xs ys : List ℕ) → ((x ≡ y) ⊎ (x ≢ y)) → ((xs ≡ ys) ⊎ (xs ≡ ys → ⊥)) → (x ∷ xs ≡ y ∷ ys) ⊎ (x ∷ xs ≡ y ∷ ys → ⊥)
both-same x y xs ys (inr other) rest = inr (λ e. other cc)
both-same x y xs ys (inl same) (inr other) = inr (λ e. other cc)
both-same x y xs ys (inl same) (inl equal) = inl cc

same-number : (x y : ℕ) → (x ≡ y) ⊎ (x ≢ y)
same-number x y = elim (eqb_tells x y) [ inl same ↦ inl same.1 | inr other ↦ inr other.1 ]

same-bytes : (xs ys : List ℕ) → (xs ≡ ys) ⊎ (xs ≡ ys → ⊥)
same-bytes [] [] = inl refl
same-bytes [] (y ∷ ys) = inr (λ e. cc)
same-bytes (x ∷ xs) [] = inr (λ e. cc)
same-bytes (x ∷ xs) (y ∷ ys) = both-same x y xs ys (same-number x y) (same-bytes xs ys)

-- a field is a word or none
spelled-by : (field : List ℕ) (found : Option Word) → word_at field ≡ found → ((w : Word) × (field ≡ spelling w)) ⊎ ((w : Word) → field ≡ spelling w → ⊥)
spelled-by field None e = inr (λ w same.
    let clash : None ≡ Some w = sym e ∙ ap word_at same ∙ word_at-spelling w in
    cc)
spelled-by field (Some w) e = elim (same-bytes field (spelling w)) [
  | inl same ↦ inl (w, same)
  | inr other ↦ inr (λ v same.
      let kinds : Some v ≡ Some w = sym (word_at-spelling v) ∙ ap word_at (sym same) ∙ e in
      let kind : v ≡ w = cc in
      other (same ∙ ap spelling kind))
]

-- a field is a number or none
number-or-none : (field : List ℕ) → ((n : ℕ) × SpellsNumber field n) ⊎ IsNoNumber field
number-or-none field = elim (same-bytes field (decimal (digits_value 10 field))) [
  | inl same ↦ elim (cases_lt (digits_value 10 field) (2 ^ 64)) [
    | inl small ↦ inl (digits_value 10 field, (small, same))
    | inr large ↦ inr (λ n spelled. let value = (IsSpelling-from_spelled field n spelled).value in absurd (omega (arith, spelled.0, value)))
  ]
  | inr other ↦ inr (λ n spelled. other (spelled.1 ∙ ap decimal (sym (IsSpelling-from_spelled field n spelled).value)))
]

-- fields are numbers, or one of them is none
join-number : (field : List ℕ) (behind : List (List ℕ)) → (((n : ℕ) × SpellsNumber field n) ⊎ IsNoNumber field)
    → (((ns : List ℕ) × AllByRecursion (λ n. n < 2 ^ 64) ns × (behind ≡ map decimal ns)) ⊎ Any IsNoNumber behind)
    → ((ns : List ℕ) × AllByRecursion (λ n. n < 2 ^ 64) ns × (field ∷ behind ≡ map decimal ns)) ⊎ Any IsNoNumber (field ∷ behind)
join-number field behind (inr none) rest = inr (0, field, omega arith, refl, none)
join-number field behind (inl found) (inr any) = inr (suc any.0, any.1, omega (arith, any.2), any.3, any.4)
join-number field behind (inl found) (inl rest) =
    let first = found.1.1 in
    let others = rest.2 in
    inl (found.0 ∷ rest.0, (found.1.0, rest.1), cc)

numbers-or-none : (behind : List (List ℕ)) → ((ns : List ℕ) × AllByRecursion (λ n. n < 2 ^ 64) ns × (behind ≡ map decimal ns)) ⊎ Any IsNoNumber behind
numbers-or-none [] = inl ([], tt, refl)
numbers-or-none (field ∷ behind) = join-number field behind (number-or-none field) (numbers-or-none behind)

-- as many numbers as a word takes make a row
row-from_numbers : (w : Word) (ns : List ℕ) → length ns ≡ count_of w → AllByRecursion (λ n. n < 2 ^ 64) ns
    → (r : Row) × (fields r ≡ spelling w ∷ map decimal ns) × AllByRecursion (λ n. n < 2 ^ 64) (r.thread ∷ op_numbers r.op)
row-from_numbers word.New (t ∷ a ∷ b ∷ c ∷ []) many small = (row_from word.New t a b c, refl, small)
row-from_numbers word.New ns many small = absurd (omega arith)
row-from_numbers word.Arr (t ∷ a ∷ b ∷ []) many small = (row_from word.Arr t a b 0, refl, small)
row-from_numbers word.Arr ns many small = absurd (omega arith)
row-from_numbers word.Store (t ∷ a ∷ b ∷ c ∷ []) many small = (row_from word.Store t a b c, refl, small)
row-from_numbers word.Store ns many small = absurd (omega arith)
row-from_numbers word.Load (t ∷ a ∷ b ∷ c ∷ []) many small = (row_from word.Load t a b c, refl, small)
row-from_numbers word.Load ns many small = absurd (omega arith)
row-from_numbers word.Put (t ∷ a ∷ b ∷ c ∷ []) many small = (row_from word.Put t a b c, refl, small)
row-from_numbers word.Put ns many small = absurd (omega arith)
row-from_numbers word.Get (t ∷ a ∷ b ∷ []) many small = (row_from word.Get t a b 0, refl, small)
row-from_numbers word.Get ns many small = absurd (omega arith)
row-from_numbers word.GStore (t ∷ a ∷ b ∷ []) many small = (row_from word.GStore t a b 0, refl, small)
row-from_numbers word.GStore ns many small = absurd (omega arith)
row-from_numbers word.GLoad (t ∷ a ∷ b ∷ []) many small = (row_from word.GLoad t a b 0, refl, small)
row-from_numbers word.GLoad ns many small = absurd (omega arith)
row-from_numbers word.Drop (t ∷ a ∷ []) many small = (row_from word.Drop t a 0 0, refl, small)
row-from_numbers word.Drop ns many small = absurd (omega arith)
row-from_numbers word.Gc (t ∷ []) many small = (row_from word.Gc t 0 0 0, refl, small)
row-from_numbers word.Gc ns many small = absurd (omega arith)

-- what a record is
abbrev IsEither : Shape → List (List ℕ) → Type 0
IsEither s cells = ((r : Row) × IsTraceRow s r × (cells ≡ fields r)) ⊎ ((why : RowCause) × HasCause s cells why)

either-row : (s : Shape) (cells : List (List ℕ)) (r : Row) (broken : Option RowCause) → Spells cells r → broken_by s r ≡ broken → IsEither s cells
either-row s cells r None spells e =
    let (thread, none) = unbroken s r e in
    inl (r, row-within s r spells.numbers.1 thread none, spells.spelled)
either-row s cells r (Some why) spells e = inr (why, limit-cause s cells r why spells e)

either-numbers : (s : Shape) (field : List ℕ) (behind : List (List ℕ)) (w : Word) → field ≡ spelling w → length behind ≡ count_of w
    → (((ns : List ℕ) × AllByRecursion (λ n. n < 2 ^ 64) ns × (behind ≡ map decimal ns)) ⊎ Any IsNoNumber behind) → IsEither s (field ∷ behind)
either-numbers s field behind w e same (inr any) =
    inr (cause.Number, (op_from w 0 0 0, record { behind = behind; begins = ap (λ f. f ∷ behind) (e ∙ ap spelling (sym (word-from w 0 0 0))) }, same ∙ sym (count-from w 0 0 0), any))
either-numbers s field behind w e same (inl found) =
    let (r, spelled, numbers) = row-from_numbers w found.0 (omega (arith, same, ap length found.2, length-map found.0 decimal)) found.1 in
    let cells : field ∷ behind ≡ fields r = ap (λ f. f ∷ behind) e ∙ ap (λ b. spelling w ∷ b) found.2 ∙ sym spelled in
    either-row s (field ∷ behind) r (broken_by s r) (record { spelled = cells; numbers = numbers }) refl

either-count : (s : Shape) (field : List ℕ) (behind : List (List ℕ)) (w : Word) → field ≡ spelling w
    → ((length behind ≡ count_of w) ⊎ (length behind ≢ count_of w)) → IsEither s (field ∷ behind)
either-count s field behind w e (inr other) =
    inr (cause.Fields, (op_from w 0 0 0, record { behind = behind; begins = ap (λ f. f ∷ behind) (e ∙ ap spelling (sym (word-from w 0 0 0))) }, λ as_many. other (as_many ∙ count-from w 0 0 0)))
either-count s field behind w e (inl same) = either-numbers s field behind w e same (numbers-or-none behind)

either-word : (s : Shape) (field : List ℕ) (behind : List (List ℕ)) → (((w : Word) × (field ≡ spelling w)) ⊎ ((w : Word) → field ≡ spelling w → ⊥)) → IsEither s (field ∷ behind)
either-word s field behind (inr none) = inr (cause.Word, λ o b. none (word_of o) (first-word (field ∷ behind) o b).1)
either-word s field behind (inl found) = either-count s field behind found.0 found.1 (same-number (length behind) (count_of found.0))

pub either : (s : Shape) (cells : List (List ℕ)) → IsEither s cells
either s [] = inr (cause.Word, λ o b. let e = b.begins in cc)
either s (field ∷ behind) = either-word s field behind (spelled-by field (word_at field) refl)
