-- Numbers, read and written.
use Rattle.std.proofs.Common.{◌≡◌, ℕ, ◌^◌, ◌<◌, ◌≤◌, List, [], ◌++◌, Option, Some, None, Bool, true, false, drop, length, take, get_or, refl, ap, sym, subst, ◌∙◌, arith, rules, tests, length-append}
use Rattle.std.specs.Prelude.{MatchOption, nat_lt, option_map, ◌&&◌, if◌then◌else◌}
use Rattle.std.specs.Char.{is_ascii_digit}
use Rattle.std.specs.List.{prefix_len}
use Rattle.std.specs.Str.{bytes_eq}
use Rattle.std.specs.Str.Parse.{AllDigits, digits_value}
use Rattle.std.specs.Fmt.{decimal}
use Rattle.std.proofs.lemmas.Fmt.{decimal_is_IsNumeral, decimal_nonempty}
use Rattle.std.proofs.Math.Seq.{drop-append_seam, take-append_seam}
use Rattle.std.proofs.lemmas.List.{get_or-append_right, length-take, take-append-drop}
use Rattle.std.proofs.lemmas.List.Sums.{prefix_len-le-length}
use Rattle.std.proofs.lemmas.Slice.Eq.{bytes_eq-Decides}
use Rattle.bal_base.specs.Number.{SpellsNumber, leading_digits}
use Rattle.bal_base.proofs.Lemmas.{leading-is}
use Rattle.bal_text.specs.Grammar.{number_at, number_of, value_at}
use Rattle.bal_text.proofs.Options.{map_some}
use Rattle.bal_text.proofs.Readings.{IsReading, reads_like, reads_only}

abbrev pub IsBelow : ℕ → ℕ → Type 0
IsBelow limit n = n < limit

-- no digit stands there
abbrev pub EndsNumber : List ℕ → Type 0
EndsNumber rest = is_ascii_digit (get_or rest 0 0) ≡ false

-- the two tests of a number
number_tests : (v n : ℕ) (word : List ℕ) (below same : Bool) → nat_lt v (2 ^ 64) ≡ below → bytes_eq (decimal v) word ≡ same
    → (if below && same then Some v else None) ≡ Some n → (n < 2 ^ 64) × (word ≡ decimal n)
number_tests v n word true true below same e =
    let value : v ≡ n = cc in
    let spelled = (bytes_eq-Decides (decimal v) word).0 same in
    (subst (λ m. m < 2 ^ 64) value (search (rules, tests)), sym spelled ∙ ap decimal value)
number_tests v n word true false below same e = cc
number_tests v n word false same below s e = cc

-- a word that is read as a number spells it
of_again : (word : List ℕ) (n : ℕ) → number_of word ≡ Some n → (n < 2 ^ 64) × (word ≡ decimal n)
of_again word n e = number_tests (digits_value 10 word) n word _ _ refl refl e

-- a number is read as it is spelled
of_back : (n : ℕ) → n < 2 ^ 64 → number_of (decimal n) ≡ Some n
of_back n below =
    let value : digits_value 10 (decimal n) ≡ n = (decimal_is_IsNumeral n below).1 in
    let first : nat_lt n (2 ^ 64) ≡ true = search (rules, tests) in
    let same : bytes_eq (decimal n) (decimal n) ≡ true = (bytes_eq-Decides (decimal n) (decimal n)).1 refl in
    rw (value, first, same) refl

-- and else there is none
of_none : (word : List ℕ) → ((n : ℕ) → SpellsNumber word n → ⊥) → number_of word ≡ None
of_none word none = by_reading (number_of word) refl where
  by_reading : (o : Option ℕ) → number_of word ≡ o → number_of word ≡ None
  by_reading None e = e
  by_reading (Some n) e = let is = of_again word n e in absurd (none n is)

-- digits with none after them are all that stand there
digits_alone : (ds rest : List ℕ) → AllDigits 10 ds → EndsNumber rest → leading_digits (ds ++ rest) ≡ ds
digits_alone ds rest all ends =
    let front : take (length ds) (ds ++ rest) ≡ ds = take-append_seam ds rest in
    let next : get_or (ds ++ rest) (length ds) 0 ≡ get_or rest 0 0 = get_or-append_right ds rest (length ds) (length ds) 0 refl (omega arith) ∙ ap (λ i. get_or rest i 0) (omega arith) in
    leading-is (ds ++ rest) (length ds) (omega (arith, length-append ds rest)) (subst (AllDigits 10) (sym front) all) (λ _. ap is_ascii_digit next ∙ ends) ∙ front

-- the digits that stand there, and what is after them
leading_parts : (text : List ℕ) → text ≡ leading_digits text ++ drop (length (leading_digits text)) text
leading_parts text =
    let k = prefix_len is_ascii_digit text in
    let long : length (take k text) ≡ k = omega (arith, length-take k text, prefix_len-le-length is_ascii_digit text) in
    sym (take-append-drop k text) ∙ ap (λ i. take k text ++ drop i text) (sym long)

value_back : (n : ℕ) (rest : List ℕ) → n < 2 ^ 64 → EndsNumber rest → value_at (decimal n ++ rest) ≡ Some (n, rest)
unfolding value_at
value_back n rest below ends =
    let digits = digits_alone (decimal n) rest (decimal_is_IsNumeral n below).0.1 ends in
    rw (digits, of_back n below) (ap (λ l. Some (n, l)) (drop-append_seam (decimal n) rest))

value_again : (text : List ℕ) (n : ℕ) (rest : List ℕ) → value_at text ≡ Some (n, rest) → (n < 2 ^ 64) × (text ≡ decimal n ++ rest)
unfolding value_at
value_again text n rest e =
    let (m, found, same) = map_some _ (number_of (leading_digits text)) (n, rest) e in
    let is = of_again (leading_digits text) m found in
    let whole : text ≡ decimal m ++ drop (length (leading_digits text)) text = leading_parts text ∙ ap (λ l. l ++ drop (length (leading_digits text)) text) is.1 in
    subst (λ (z : ℕ × List ℕ). (z.0 < 2 ^ 64) × (text ≡ decimal z.0 ++ z.1)) same (is.0, whole)

-- numbers of 64 bits
pub reads_value : IsReading EndsNumber (IsBelow (2 ^ 64)) decimal value_at
reads_value = record { back = value_back; again = value_again }

-- numbers below a limit
pub reads_number : (limit : ℕ) → limit ≤ 2 ^ 64 → IsReading EndsNumber (IsBelow limit) decimal (number_at limit)
reads_number limit small = reads_like (IsBelow limit) (reads_only (λ n. nat_lt n limit) reads_value)
    (λ n below. (omega (arith, small, below), search (rules, tests, below))) (λ n is. search (rules, tests, is.1))

-- where no digit stands there is none
pub no_value : (text : List ℕ) → EndsNumber text → value_at text ≡ None
unfolding value_at
no_value text ends =
    let digits : leading_digits text ≡ [] = digits_alone [] text tt ends in
    rw (digits, of_none [] (λ n spelled. let some = decimal_nonempty n spelled.0 in omega (arith, some, ap length spelled.1))) refl

-- what tells a number
pub told_value : {B : Type 0} (v : B → List ℕ) (text : List ℕ) (r : Option (ℕ × B))
    → MatchOption r ((n : ℕ) → SpellsNumber (leading_digits text) n → ⊥) (λ p. SpellsNumber (leading_digits text) p.0 × (text ≡ decimal p.0 ++ v p.1))
    → option_map (λ p. (p.0, v p.1)) r ≡ value_at text
unfolding value_at
told_value v text None none = rw (of_none (leading_digits text) none) refl
told_value v text (Some p) is =
    let digits = is.0.1 in
    let read : number_of (leading_digits text) ≡ Some p.0 = ap number_of digits ∙ of_back p.0 is.0.0 in
    let rest : drop (length (leading_digits text)) text ≡ v p.1 =
    ap (λ l. drop (length l) text) digits ∙ ap (drop (length (decimal p.0))) is.1 ∙ drop-append_seam (decimal p.0) (v p.1) in
    rw (read, rest) refl
