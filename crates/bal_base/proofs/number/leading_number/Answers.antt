use Rattle.std.proofs.Common.{◌≡◌, ◌<◌, ◌^◌, ◌∙◌, sym, refl, subst, inl, inr, true, false, get_or, take, arith}
use Rattle.std.specs.Char.{is_ascii_digit}
use Rattle.std.specs.Str.Parse.{digits_value}
use Rattle.std.proofs.lemmas.Bool.{cases_lt, eq-eqb, eqb-true}
use Rattle.bal_base.specs.Number.{leading_digits}
use Rattle.bal_base.proofs.Numbers.{all_read, behind_first, digit_read, few_read, first_read, none_first, none_overflows, none_zero, number_read, second_byte}
use Rattle.bal_base.proofs.number.leading_number.Goals as goal
use Rattle.bal_base.proofs.number.leading_number.Goals.{then-not-is_ascii_digit-via-then-not-is_ascii_digit, then-not-is_ascii_digit-via-else-not-is_ascii_digit+then-first-eq48, then-begins_with_digit, else-begins_with_digit, in_default-rest, in-len1-up-rest+then-not-is_ascii_digit-2, else-text-rest-gt-SURE_DIGITS-via-then-text-rest-gt-SURE_DIGITS+else-overflows, else-text-rest-gt-SURE_DIGITS-via-else-text-rest-gt-SURE_DIGITS}

pub returns-in_default : goal.returns-in_default
returns-in_default c = λ n s. none_first c.args.text.now n (λ some. absurd (omega (arith, some, c.in_default.len_below))) s

pub returns-then-not-is_ascii_digit : goal.returns-then-not-is_ascii_digit
returns-then-not-is_ascii_digit c = λ n s. elim c.then-not-is_ascii_digit.branch [
  | then-not-is_ascii_digit-via-then-not-is_ascii_digit w ↦ none_first c.args.text.now n (λ _. sym w.if-not-is_ascii_digit.ensures.value) s
  | then-not-is_ascii_digit-via-else-not-is_ascii_digit+then-first-eq48 w ↦ elim w.if-begins_with_digit.branch [
    | then-begins_with_digit v ↦
        let alone : get_or c.args.text.now 0 0 ≡ 48 = eqb-true _ _ (sym v.value-is ∙ w.if-first-eq48.true) in
        let digit = subst (λ b. is_ascii_digit b ≡ true) (second_byte c.args.text.now) (sym v.if-begins_with_digit.ensures) in
        none_zero c.args.text.now n alone digit s
    | else-begins_with_digit v ↦ cc
  ]
]

pub loop-rest-init : goal.loop-rest-init
loop-rest-init c =
    let text = c.args.text.now in
    let read = first_read text c.from-number.result c.in-len1-up.len_at_least c.if-not-is_ascii_digit.ensures.bound c.from-number.ensures in
    record { some = behind_first text c.in-len1-up.len_at_least; read = read }

pub loop-rest-preserved : goal.loop-rest-preserved
loop-rest-preserved c =
    let before = c.loop-rest.invariant in
    let read = digit_read c.args.text.now c.loop-rest.rest.now c.loop-rest.number c.from.result _ before.read c.in-len1-up-rest.len_at_least
    c.if-not-is_ascii_digit-2.ensures.bound c.from.ensures refl in
    record { some = omega (arith, before.some, behind_first c.loop-rest.rest.now c.in-len1-up-rest.len_at_least); read = read }

pub returns-then-overflows : goal.returns-then-overflows
returns-then-overflows c = λ n s. none_overflows c.args.text.now n (c.if-overflows.ensures.0 refl) s

pub returns : goal.returns
returns c =
    let text = c.args.text.now in
    let rest = c.loop-rest.rest.now in
    let n = c.loop-rest.number in
    let before = c.loop-rest.invariant in
    let are : leading_digits text ≡ take before.read.at text = elim c.if-rest-lt1.branch [
      | in_default-rest w ↦ all_read text rest n before.read (λ some. absurd (omega (arith, some, w.in_default-rest.len_below)))
      | in-len1-up-rest+then-not-is_ascii_digit-2 w ↦ all_read text rest n before.read (λ _. sym w.if-not-is_ascii_digit-2.ensures.value)
    ] in
    let alone : get_or text 0 0 ≡ 48 → is_ascii_digit (get_or text 1 0) ≡ false = λ zero. elim c.if-begins_with_digit.branch [
      | then-begins_with_digit v ↦ let same = eq-eqb _ _ zero in let value = v.value-is in let other = c.if-first-eq48.false in cc
      | else-begins_with_digit v ↦ subst (λ b. is_ascii_digit b ≡ false) (second_byte text) (sym v.if-begins_with_digit.ensures)
    ] in
    let small : digits_value 10 (leading_digits text) < 2 ^ 64 = elim c.else-text-rest-gt-SURE_DIGITS.branch [
      | else-text-rest-gt-SURE_DIGITS-via-then-text-rest-gt-SURE_DIGITS+else-overflows w ↦ elim (cases_lt (digits_value 10 (leading_digits text)) (2 ^ 64)) [
        | inl below ↦ below
        | inr above ↦ let never = w.if-overflows.ensures.1 (omega (arith, above)) in cc
      ]
      | else-text-rest-gt-SURE_DIGITS-via-else-text-rest-gt-SURE_DIGITS w ↦ few_read text rest n before.read are (omega (arith, w.if-text-rest-gt-SURE_DIGITS.false))
    ] in
    number_read text rest n before.read are before.some alone small
