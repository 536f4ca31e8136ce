use Rattle.std.proofs.Common.{◌*◌, ◌<◌, ◌≤◌, ◌^◌, ◌∙◌, ap, sym, refl, get_or, arith}
use Rattle.std.specs.Char.{digit_value}
use Rattle.std.specs.Str.Parse.{digits_value}
use Rattle.std.proofs.lemmas.Str.{digit_value_digit}
use Rattle.std.proofs.lemmas.Int.Digits.{digits_more, digits_value_more}
use Rattle.std.proofs.lemmas.Str.Parse.{digit_from_value}
use Rattle.bal_base.proofs.Numbers.{leading-is, value_le}
use Rattle.bal_base.proofs.number.overflows.Goals as goal

pub returns-in_default : goal.returns-in_default
returns-in_default c =
    let read = c.loop-at.invariant in
    let most = value_le c.args.text.now c.loop-at.at read.digits (sym c.is_ascii_digit.ensures.value ∙ c.if-is_ascii_digit.true) c.loop-at-test.true in
    let big : 2 ^ 64 ≤ c.loop-at.number * 10 = omega (arith, c.in_default.ensures) in
    (λ _. omega (arith, most, big, read.value), λ _. refl)

pub returns-in_default-checked_add : goal.returns-in_default-checked_add
returns-in_default-checked_add c =
    let read = c.loop-at.invariant in
    let most = value_le c.args.text.now c.loop-at.at read.digits (sym c.is_ascii_digit.ensures.value ∙ c.if-is_ascii_digit.true) c.loop-at-test.true in
    let digit : digit_value (get_or c.args.text.now c.loop-at.at 0) < 10 = c.if-is_ascii_digit.ensures.bound in
    let place = digit_value_digit (get_or c.args.text.now c.loop-at.at 0) (digit_from_value _ digit) in
    (λ _. omega (arith, most, place, read.value, c.from-digit.ensures, c.in-Some.ensures, c.in_default-checked_add.ensures), λ _. refl)

pub loop-at-preserved : goal.loop-at-preserved
loop-at-preserved c =
    let at = c.loop-at.at in
    let read = c.loop-at.invariant in
    let more = digits_value_more 10 c.args.text.now at c.loop-at-test.true in
    let digit : digit_value (get_or c.args.text.now at 0) < 10 = c.if-is_ascii_digit.ensures.bound in
    let place = digit_value_digit (get_or c.args.text.now at 0) (digit_from_value _ digit) in
    record {
      within = omega (arith, c.loop-at-test.true);
      digits = digits_more 10 _ _ c.loop-at-test.true read.digits digit;
      value = omega (arith, more, place, read.value, c.from-digit.ensures, c.in-Some.ensures, c.in-Some-checked_add.ensures);
      fits = omega (arith, c.in-Some-checked_add.ensures);
    }

pub returns-else-is_ascii_digit : goal.returns-else-is_ascii_digit
returns-else-is_ascii_digit c =
    let read = c.loop-at.invariant in
    let are = leading-is c.args.text.now c.loop-at.at read.within read.digits (λ _. sym c.is_ascii_digit.ensures.value ∙ c.if-is_ascii_digit.false) in
    (λ never. cc, λ big. absurd (omega (arith, big, read.value, read.fits, ap (digits_value 10) are)))

pub returns-after-loop-at : goal.returns-after-loop-at
returns-after-loop-at c =
    let read = c.loop-at.invariant in
    let are = leading-is c.args.text.now c.loop-at.at read.within read.digits (λ more. absurd (omega (arith, c.loop-at-test.false, more))) in
    (λ never. cc, λ big. absurd (omega (arith, big, read.value, read.fits, ap (digits_value 10) are)))
