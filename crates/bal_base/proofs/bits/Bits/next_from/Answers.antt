use Rattle.std.proofs.Common.{◌≤◌, ◌<◌, ◌∙◌, ◌+◌, ◌*◌, None, Some, ap, arith, length, subst}
use Rattle.std.specs.Prelude.{bit_and}
use Rattle.std.specs.Int.{trailing_zeros, w64}
use Rattle.std.proofs.lemmas.Grind.{get_or_default_zero}
use Rattle.std.proofs.lemmas.Nat.{and_le_r}
use Rattle.bal_base.specs.Bits.{IsAscending, IsNextFrom, Members}
use Rattle.bal_base.proofs.Masked.{next-here, next-later, next-nowhere}
use Rattle.bal_base.proofs.SetBits.{members-ascend}
use Rattle.bal_base.proofs.bits.Bits.next_from.Goals as goal

pub returns-then-word-ne0-clause-next : goal.returns-then-word-ne0-clause-next
returns-then-word-ne0-clause-next c =
    let bits = c.self.inside.words.items in
    let within : c.loop-i.i < length bits = omega (arith, c.loop-i-test.true, c.len-i-end.ensures, c.self.inside.words.ok.0) in
    let left = ap (λ w. bit_and w c.bits_from.result) (c.index.ensures ∙ get_or_default_zero bits c.loop-i.i c.index.result.now within) in
    let found = next-here bits c.args.number c.loop-i.i c.bits_from.result _ left c.bits_from.ensures c.loop-i.invariant
    (omega (arith, c.if-word-ne0.true)) (omega (arith, and_le_r c.index.result.now c.bits_from.result, c.bits_from.type_inv)) within in
    subst (λ (p : Members). IsNextFrom p.members c.args.number (Some (64 * c.loop-i.i + trailing_zeros w64 (bit_and c.index.result.now c.bits_from.result)))) c.self.view_is found

pub loop-i-preserved : goal.loop-i-preserved
loop-i-preserved c =
    let bits = c.self.inside.words.items in
    let within : c.loop-i.i < length bits = omega (arith, c.loop-i-test.true, c.len-i-end.ensures, c.self.inside.words.ok.0) in
    let left = ap (λ w. bit_and w c.bits_from.result) (c.index.ensures ∙ get_or_default_zero bits c.loop-i.i c.index.result.now within) in
    next-later bits c.args.number c.loop-i.i c.bits_from.result _ left c.bits_from.ensures c.loop-i.invariant c.if-word-ne0.false

pub returns-clause-next : goal.returns-clause-next
returns-clause-next c =
    let bits = c.self.inside.words.items in
    let past : length bits ≤ c.loop-i.i = omega (arith, c.loop-i-test.false, c.len-i-end.ensures, c.self.inside.words.ok.0) in
    subst (λ (p : Members). IsNextFrom p.members c.args.number None) c.self.view_is
    (next-nowhere bits c.args.number (λ s from to. c.loop-i.invariant s from (omega (arith, to, past))))

pub returns-then-word-ne0-clause-ascending : goal.returns-then-word-ne0-clause-ascending
returns-then-word-ne0-clause-ascending c = subst (λ (p : Members). IsAscending p.members) c.self.view_is (members-ascend c.self.inside.words.items)

pub returns-clause-ascending : goal.returns-clause-ascending
returns-clause-ascending c = subst (λ (p : Members). IsAscending p.members) c.self.view_is (members-ascend c.self.inside.words.items)
