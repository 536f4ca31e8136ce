use Rattle.std.proofs.Common.{◌≡◌, ◌*◌, ◌+◌, ◌-◌, ◌<◌, ◌∙◌, None, Some, ap, arith, inl, inr, length, subst}
use Rattle.std.specs.Prelude.{bit_and}
use Rattle.std.specs.Int.{leading_zeros, w64}
use Rattle.std.proofs.lemmas.Bool.{cases_lt}
use Rattle.std.proofs.lemmas.Grind.{get_or_default_zero}
use Rattle.std.proofs.lemmas.Nat.{and_le_r}
use Rattle.bal_base.specs.Bits.{IsLastTo, Members}
use Rattle.bal_base.proofs.SetBits.{is_set-past}
use Rattle.bal_base.proofs.Masked.{last-earlier, last-here, last-nowhere}
use Rattle.bal_base.proofs.bits.Bits.last_to.Goals as goal

pub loop-i-init : goal.loop-i-init
loop-i-init c = λ s le from. elim (cases_lt s (64 * length c.self.inside.words.items)) [
  | inl inside ↦ absurd (omega (arith, inside, le, from, c.min-end.ensures, c.len.ensures, c.self.inside.words.ok.0))
  | inr past ↦ is_set-past c.self.inside.words.items s past
]

pub returns-then-word-ne0 : goal.returns-then-word-ne0
returns-then-word-ne0 c =
    let bits = c.self.inside.words.items in
    let i = c.loop-i.i - 1 in
    let within : i < length bits = omega (arith, c.loop-i-test.true, c.loop-i.auto.i, c.min-end.ensures, c.len.ensures, c.self.inside.words.ok.0) in
    let next : i + 1 ≡ c.loop-i.i = omega (arith, c.loop-i-test.true) in
    let left = ap (λ w. bit_and w c.bits_to.result) (c.index.ensures ∙ get_or_default_zero bits i c.index.result.now within) in
    let found = last-here bits c.args.number i c.bits_to.result _ left c.bits_to.ensures
    (λ s le from. c.loop-i.invariant s le (omega (arith, from, next)))
    (omega (arith, c.if-word-ne0.true)) (omega (arith, and_le_r c.index.result.now c.bits_to.result, c.bits_to.type_inv)) in
    subst (λ (p : Members). IsLastTo p.members c.args.number (Some (64 * i + 63 - leading_zeros w64 (bit_and c.index.result.now c.bits_to.result)))) c.self.view_is found

pub loop-i-preserved : goal.loop-i-preserved
loop-i-preserved c =
    let bits = c.self.inside.words.items in
    let i = c.loop-i.i - 1 in
    let within : i < length bits = omega (arith, c.loop-i-test.true, c.loop-i.auto.i, c.min-end.ensures, c.len.ensures, c.self.inside.words.ok.0) in
    let next : i + 1 ≡ c.loop-i.i = omega (arith, c.loop-i-test.true) in
    let left = ap (λ w. bit_and w c.bits_to.result) (c.index.ensures ∙ get_or_default_zero bits i c.index.result.now within) in
    last-earlier bits c.args.number i c.bits_to.result _ left c.bits_to.ensures (λ s le from. c.loop-i.invariant s le (omega (arith, from, next))) c.if-word-ne0.false

pub returns : goal.returns
returns c =
    subst (λ (p : Members). IsLastTo p.members c.args.number None) c.self.view_is
    (last-nowhere c.self.inside.words.items c.args.number (λ s le. c.loop-i.invariant s le (omega (arith, c.loop-i-test.false))))
