use Rattle.std.proofs.Common.{◌/◌, ◌%◌, ◌^◌, ◌*◌, ◌<◌, ◌≤◌, ◌∙◌, ap, arith, eqb, length, sym}
use Rattle.std.proofs.lemmas.Bool.{le-ltb}
use Rattle.std.proofs.lemmas.Grind.{get_or_default_zero}
use Rattle.bal_base.specs.Bits.{Members, is_member}
use Rattle.bal_base.proofs.SetBits.{is_set-past, set-is_member}
use Rattle.bal_base.proofs.bits.Bits.contains.Goals as goal

pub returns-then-i-len : goal.returns-then-i-len
returns-then-i-len c =
    let bits = c.self.inside.words.items in
    let i = c.args.number / 64 in
    let within : i < length bits = omega (arith, c.if-i-len.true, c.len.ensures, c.self.inside.words.ok.0) in
    ap (λ w. eqb (w / 2 ^ (c.args.number % 64) % 2) 1) (c.index.ensures ∙ get_or_default_zero bits i c.index.result.now within)
    ∙ (set-is_member bits c.args.number ∙ ap (λ (p : Members). is_member p.members c.args.number) c.self.view_is)

pub returns-else-i-len : goal.returns-else-i-len
returns-else-i-len c =
    let bits = c.self.inside.words.items in
    let past : 64 * length bits ≤ c.args.number = omega (arith, c.if-i-len.false, c.len.ensures, c.self.inside.words.ok.0) in
    le-ltb (c.args.number / 64) c.len.result c.if-i-len.false
    ∙ (sym (is_set-past bits c.args.number past)
    ∙ (set-is_member bits c.args.number ∙ ap (λ (p : Members). is_member p.members c.args.number) c.self.view_is))
