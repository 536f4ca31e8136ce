-- What a number's spelling is, as a reader of digits meets it.
use Rattle.std.proofs.Common.{◌≡◌, ℕ, ◌+◌, ◌-◌, ◌*◌, ◌%◌, ◌^◌, ◌<◌, ◌≤◌, ◌⊎◌, ◌++◌, List, drop, length, get_or, take, take_all, zero, suc, true, false, inl, inr, refl, ap, sym, subst, arith, length-append, ◌∙◌}
use Rattle.std.specs.Char.{digit_value, is_ascii_digit}
use Rattle.std.specs.Fmt.{decimal}
use Rattle.std.specs.Int.{IsInRange}
use Rattle.std.specs.Str.Parse.{AllDigits, digits_value}
use Rattle.std.proofs.lemmas.Fmt.{decimal_digit, decimal_is_IsNumeral, decimal-digits_value, first_decimal}
use Rattle.std.proofs.lemmas.Bool.{cases_lt}
use Rattle.std.proofs.lemmas.Bool.Decides.{nat_tests}
use Rattle.std.proofs.lemmas.Int.Digits.{digits_more, digits_value-lt, digits_value_more}
use Rattle.std.proofs.lemmas.List.{drop_more, get_or-drop, get_or-take, get_or_past, length-drop, length-take, take-append-drop, take_rest}
use Rattle.std.proofs.lemmas.List.Sums.{prefix_len-le-length, prefix_len_is, prefix_len_stops}
use Rattle.std.proofs.Math.Nat.{mod-eq_of_lt, pow-le-pow_right}
use Rattle.std.proofs.Math.Seq.{take-take}
use Rattle.std.specs.List.{prefix_len}
use Rattle.std.proofs.lemmas.Grind.{get_or_after_one}
use Rattle.std.proofs.lemmas.Str.{digit_value_digit}
use Rattle.std.proofs.lemmas.Str.Parse.{digit_at, digit_from_value, digits_value-take-le, numerals_by_value, tells_digits}
use Rattle.bal_base.specs.Number.{SpellsNumber, leading_digits}

-- the word is one digit or more, with no leading zero, and the digits' value is n
pub record IsSpelling (word : List ℕ) (n : ℕ) : Type 0 where
  pub some : 0 < length word
  pub digits : AllDigits 10 word
  pub alone : get_or word 0 0 ≡ 48 → length word ≡ 1
  pub value : digits_value 10 word ≡ n

-- a decimal that begins with a zero is that zero
pub decimal-alone : (n : ℕ) → n < 2 ^ 64 → get_or (decimal n) 0 0 ≡ 48 → length (decimal n) ≡ 1
decimal-alone zero _ _ = ap length (decimal_digit 0 (omega arith))
decimal-alone (suc n) small zero_first =
    absurd (omega (arith, first_decimal (suc n) (omega arith) small, zero_first))

-- what a number is spelled by is a spelling of it
pub IsSpelling-from_spelled : (word : List ℕ) (n : ℕ) → SpellsNumber word n → IsSpelling word n
IsSpelling-from_spelled word n spelled =
    let numeral = decimal_is_IsNumeral n spelled.0 in
    let P : List ℕ → Type 0 = λ w. IsSpelling w n in
    subst P (sym spelled.1) (record {
      some = numeral.0.0;
      digits = numeral.0.1;
      alone = decimal-alone n spelled.0;
      value = numeral.1;
    })

-- a word of digits with no leading zero spells their value
pub spelled-from_digits : (word : List ℕ) (n i : ℕ) → 0 < length word → (get_or word 0 0 ≡ 48 → length word ≡ 1)
    → length word ≤ i → AllDigits 10 (take i word) → n ≡ digits_value 10 (take i word) → n < 2 ^ 64 → SpellsNumber word n
spelled-from_digits word n i some alone whole digits value small =
    let all = take_all i word whole in
    let e = rw all at value in
    let again = decimal-digits_value (numerals_by_value _ tells_digits) word (rw all at digits) some alone (omega (arith, e)) in
    (small, sym again ∙ ap decimal (sym e))

-- digits are what is taken for digits
digit-passes : (b : ℕ) → IsInRange 48 57 b → is_ascii_digit b ≡ true
digit-passes b in_range = grind (arith, nat_tests, in_range)

front-passes : (text : List ℕ) (n k : ℕ) → AllDigits 10 (take n text) → n ≤ length text → k < n → is_ascii_digit (get_or text k 0) ≡ true
front-passes text n k digits within below =
    let long : length (take n text) ≡ n = omega (arith, length-take n text) in
    digit-passes (get_or text k 0) (subst (IsInRange 48 57) (get_or-take n text k 0 below) (digit_at (take n text) k digits (omega (arith, long))))

-- the digits at the front of a text are those before the first other byte
pub leading-is : (text : List ℕ) (n : ℕ) → n ≤ length text → AllDigits 10 (take n text) → (n < length text → is_ascii_digit (get_or text n 0) ≡ false)
    → leading_digits text ≡ take n text
leading-is text n within digits stops =
    ap (λ i. take i text) (prefix_len_is is_ascii_digit text n 0 within (λ k below. front-passes text n k digits within below) stops)

-- a front of digits and one digit more are among them
leading-inside : (text : List ℕ) (i : ℕ) → AllDigits 10 (take i text) → is_ascii_digit (get_or text i 0) ≡ true → i < length text → i < prefix_len is_ascii_digit text
leading-inside text i digits digit within =
    let front = prefix_len is_ascii_digit text in
    elim (cases_lt i front) [
      | inl inside ↦ inside
      | inr past ↦
          let stop : is_ascii_digit (get_or text front 0) ≡ false = prefix_len_stops is_ascii_digit text 0 (omega (arith, past, within)) in
          elim (cases_lt front i) [
            | inl before ↦ let pass = front-passes text i front digits (omega arith) before in cc
            | inr not_before ↦ let same : front ≡ i = omega (arith, past, not_before) in let pass = subst (λ k. is_ascii_digit (get_or text k 0) ≡ true) (sym same) digit in cc
          ]
    ]

-- what they are worth is no more than what all digits at the front are
pub value_le : (text : List ℕ) (i : ℕ) → AllDigits 10 (take i text) → is_ascii_digit (get_or text i 0) ≡ true → i < length text
    → digits_value 10 (take i text) * 10 + digit_value (get_or text i 0) ≤ digits_value 10 (leading_digits text)
value_le text i digits digit within =
    let front = prefix_len is_ascii_digit text in
    let inside = leading-inside text i digits digit within in
    let first : take (i + 1) (leading_digits text) ≡ take (i + 1) text = take-take (i + 1) front text (omega (arith, inside)) in
    omega (arith, digits_value_more 10 text i within, rw first at (digits_value-take-le 10 (leading_digits text) (i + 1) (omega arith)))

-- a word that spells a number begins with it
pub leading-all : (word : List ℕ) (n : ℕ) → SpellsNumber word n → leading_digits word ≡ word
leading-all word n spelled =
    let s = IsSpelling-from_spelled word n spelled in
    let all = take_all (length word) word (omega arith) in
    leading-is word (length word) (omega arith) (rw all s.digits) (λ more. absurd (omega (arith, more))) ∙ all

-- there is no number where no digit is at the front, or a zero before another one
pub leading-none : (text : List ℕ) (n i : ℕ) → leading_digits text ≡ take i text → i ≤ length text → (i ≡ 0) ⊎ ((get_or text 0 0 ≡ 48) × (1 < i))
    → SpellsNumber (leading_digits text) n → ⊥
leading-none text n i are within why spelled =
    let s = IsSpelling-from_spelled (leading_digits text) n spelled in
    let long : length (leading_digits text) ≡ i = ap length are ∙ omega (arith, length-take i text, within) in
    elim why [
      | inl none ↦ absurd (omega (arith, s.some, long, none))
      | inr zero_first ↦
          let front : get_or (leading_digits text) 0 0 ≡ 48 = ap (λ l. get_or l 0 0) are ∙ get_or-take i text 0 0 (omega (arith, zero_first.1)) ∙ zero_first.0 in
          absurd (omega (arith, s.alone front, long, zero_first.1))
    ]

-- else there is one
pub leading-some : (text : List ℕ) (n i : ℕ) → leading_digits text ≡ take i text → i ≤ length text → 0 < i → (get_or text 0 0 ≡ 48 → i ≡ 1)
    → AllDigits 10 (take i text) → n ≡ digits_value 10 (take i text) → n < 2 ^ 64
    → SpellsNumber (leading_digits text) n × (text ≡ decimal n ++ take (length text - i) (drop i text))
leading-some text n i are within some alone digits value small =
    let long : length (take i text) ≡ i = omega (arith, length-take i text, within) in
    let again : take i (take i text) ≡ take i text = take_all i (take i text) (omega (arith, long)) in
    let spelled = spelled-from_digits (take i text) n i (omega (arith, long, some))
    (λ zero. omega (arith, long, alone (sym (get_or-take i text 0 0 some) ∙ zero))) (omega (arith, long)) (rw again digits) (rw again value) small in (
      subst (λ w. SpellsNumber w n) (sym are) spelled,
      sym (take-append-drop i text) ∙ ap (λ w. w ++ drop i text) spelled.1 ∙ ap (λ l. decimal n ++ l) (sym (take_rest text i)),
    )

-- and has nothing after it
pub leading-whole : (word rest : List ℕ) (n m : ℕ) → SpellsNumber word n → leading_digits word ≡ decimal m → word ≡ decimal m ++ rest → length rest ≡ 0
leading-whole word rest n m spelled digits front =
    let same : decimal m ≡ word = sym digits ∙ leading-all word n spelled in
    omega (arith, ap length front, ap length same, length-append (decimal m) rest)

-- nineteen digits fit
few_fit : (text : List ℕ) (i : ℕ) → i ≤ 19 → AllDigits 10 (take i text) → digits_value 10 (take i text) < 2 ^ 64
few_fit text i few digits =
    let below = digits_value-lt 10 (take i text) digits in
    let short : length (take i text) ≤ 19 = omega (arith, few, length-take i text) in
    let most : 10 ^ length (take i text) ≤ 10 ^ 19 = pow-le-pow_right (omega arith) short in
    omega (arith, below, most)

-- digits were read that stand in front of a rest, and the number is their value, unless that is more than it holds
pub record IsRead (text rest : List ℕ) (number : ℕ) : Type 0 where
  pub at : ℕ
  pub within : at ≤ length text
  pub behind : rest ≡ drop at text
  pub digits : AllDigits 10 (take at text)
  pub value : digits_value 10 (take at text) < 2 ^ 64 → number ≡ digits_value 10 (take at text)

-- at first nothing was read
pub nothing_read : (text : List ℕ) → IsRead text text 0
nothing_read text = record { at = 0; within = omega arith; behind = refl; digits = tt; value = λ _. refl }

-- the rest's first byte in the text
byte_behind : (text rest : List ℕ) (n : ℕ) (read : IsRead text rest n) → get_or rest 0 0 ≡ get_or text read.at 0
byte_behind text rest n read =
    let first : read.at + 0 ≡ read.at = omega arith in
    ap (λ l. get_or l 0 0) read.behind ∙ get_or-drop read.at text 0 0 ∙ ap (λ k. get_or text k 0) first

-- a digit more was read, and the number may have wrapped
pub digit_read : (text rest : List ℕ) (n d m : ℕ) → IsRead text rest n → 0 < length rest → digit_value (get_or rest 0 0) < 10 → d ≡ get_or rest 0 0 - 48
    → m ≡ (n * 10 % 2 ^ 64 + d) % 2 ^ 64 → IsRead text (take (length rest - 1) (drop 1 rest)) m
digit_read text rest n d m read some digit worth is =
    let at = read.at in
    let long : length rest ≡ length text - at = ap length read.behind ∙ length-drop at text in
    let more : at < length text = omega (arith, long, some) in
    let byte = byte_behind text rest n read in
    let place : digit_value (get_or text at 0) < 10 = subst (λ b. digit_value b < 10) byte digit in
    let value : d ≡ digit_value (get_or text at 0) = omega (arith, worth, byte, digit_value_digit (get_or text at 0) (digit_from_value _ place)) in
    let grown = digits_value_more 10 text at more in
    let next : take (length rest - 1) (drop 1 rest) ≡ drop (at + 1) text =
    take_rest rest 1 ∙ ap (λ l. drop 1 l) read.behind ∙ ap (λ l. drop 1 l) (drop_more text at 0 more) in
    record {
      at = at + 1;
      within = omega (arith, more);
      behind = next;
      digits = digits_more 10 text at more read.digits place;
      value = λ small.
          let before = read.value (omega (arith, small, grown)) in
          let whole : n * 10 + d < 2 ^ 64 = omega (arith, small, grown, before, value) in
          let tenfold : n * 10 % 2 ^ 64 ≡ n * 10 = mod-eq_of_lt (omega (arith, whole)) in
          let sum : (n * 10 % 2 ^ 64 + d) % 2 ^ 64 ≡ n * 10 % 2 ^ 64 + d = mod-eq_of_lt (omega (arith, whole, tenfold)) in
          omega (arith, is, sum, tenfold, before, grown, value);
    }

-- the first digit was read
pub first_read : (text : List ℕ) (d : ℕ) → 0 < length text → digit_value (get_or text 0 0) < 10 → d ≡ get_or text 0 0 - 48
    → IsRead text (take (length text - 1) (drop 1 text)) d
first_read text d some digit worth =
    let small : d < 10 = omega (arith, worth, digit_value_digit (get_or text 0 0) (digit_from_value _ digit), digit) in
    let alone : 0 * 10 % 2 ^ 64 + d ≡ d = omega arith in
    let whole : d % 2 ^ 64 ≡ d = mod-eq_of_lt (omega (arith, small)) in
    digit_read text text 0 d d (nothing_read text) some digit worth (sym (ap (λ k. k % 2 ^ 64) alone ∙ whole))

-- the byte after the first
pub second_byte : (text : List ℕ) → get_or (take (length text - 1) (drop 1 text)) 0 0 ≡ get_or text 1 0
second_byte text = ap (λ l. get_or l 0 0) (take_rest text 1) ∙ get_or_after_one text 0 0

-- without its first byte a text is shorter
pub behind_first : (text : List ℕ) → 0 < length text → length (take (length text - 1) (drop 1 text)) < length text
behind_first text some = omega (arith, some, ap length (take_rest text 1), length-drop 1 text)

-- where the rest begins with no digit, all were read
pub all_read : (text rest : List ℕ) (n : ℕ) (read : IsRead text rest n) → (0 < length rest → is_ascii_digit (get_or rest 0 0) ≡ false)
    → leading_digits text ≡ take read.at text
all_read text rest n read stops =
    let at = read.at in
    let long : length rest ≡ length text - at = ap length read.behind ∙ length-drop at text in
    let byte = byte_behind text rest n read in
    leading-is text at read.within read.digits (λ more. subst (λ b. is_ascii_digit b ≡ false) byte (stops (omega (arith, long, more))))

-- and the number is what they spell, if it is no zero before another digit
pub number_read : (text rest : List ℕ) (n : ℕ) (read : IsRead text rest n) → leading_digits text ≡ take read.at text → length rest < length text
    → (get_or text 0 0 ≡ 48 → is_ascii_digit (get_or text 1 0) ≡ false) → digits_value 10 (leading_digits text) < 2 ^ 64
    → SpellsNumber (leading_digits text) n × (text ≡ decimal n ++ rest)
number_read text rest n read are some alone small =
    let at = read.at in
    let long : length rest ≡ length text - at = ap length read.behind ∙ length-drop at text in
    let fits : digits_value 10 (take at text) < 2 ^ 64 = subst (λ w. digits_value 10 w < 2 ^ 64) are small in
    let value = read.value fits in
    let one : get_or text 0 0 ≡ 48 → at ≡ 1 = λ zero. elim (cases_lt 1 at) [
      | inl more ↦ let pass = front-passes text at 1 read.digits read.within more in let stop = alone zero in cc
      | inr other ↦ omega (arith, other, long, some)
    ] in
    let spelled = leading-some text n at are read.within (omega (arith, long, some)) one read.digits value (omega (arith, value, fits)) in
    (spelled.0, spelled.1 ∙ ap (λ l. decimal n ++ l) (take_rest text at ∙ sym read.behind))

-- few digits do not overflow
pub few_read : (text rest : List ℕ) (n : ℕ) (read : IsRead text rest n) → leading_digits text ≡ take read.at text → length text - length rest ≤ 19
    → digits_value 10 (leading_digits text) < 2 ^ 64
few_read text rest n read are few =
    let long : length rest ≡ length text - read.at = ap length read.behind ∙ length-drop read.at text in
    subst (λ w. digits_value 10 w < 2 ^ 64) (sym are) (few_fit text read.at (omega (arith, few, long, read.within)) read.digits)

-- digits that overflow spell no number
pub none_overflows : (text : List ℕ) (n : ℕ) → 2 ^ 64 ≤ digits_value 10 (leading_digits text) → SpellsNumber (leading_digits text) n → ⊥
none_overflows text n big spelled = omega (arith, big, spelled.0, (IsSpelling-from_spelled (leading_digits text) n spelled).value)

-- nor does a text that begins with no digit
pub none_first : (text : List ℕ) (n : ℕ) → (0 < length text → is_ascii_digit (get_or text 0 0) ≡ false) → SpellsNumber (leading_digits text) n → ⊥
none_first text n stops = leading-none text n 0 (leading-is text 0 (omega arith) tt stops) (omega arith) (inl refl)

-- nor a zero before another digit
pub none_zero : (text : List ℕ) (n : ℕ) → get_or text 0 0 ≡ 48 → is_ascii_digit (get_or text 1 0) ≡ true → SpellsNumber (leading_digits text) n → ⊥
none_zero text n alone digit spelled =
    let more : 1 < length text = elim (cases_lt 1 (length text)) [
      | inl more ↦ more
      | inr short ↦
          let past : is_ascii_digit (get_or text 1 0) ≡ false = ap is_ascii_digit (get_or_past text 1 0 (omega (arith, short))) in
          cc
    ] in
    let front = prefix_len is_ascii_digit text in
    let first = digits_more 10 text 0 (omega (arith, more)) tt (subst (λ b. digit_value b < 10) (sym alone) (omega arith)) in
    let inside = leading-inside text 1 first digit more in
    leading-none text n front refl (prefix_len-le-length is_ascii_digit text) (inr (alone, inside)) spelled
