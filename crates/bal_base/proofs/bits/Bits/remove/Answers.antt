use Rattle.std.proofs.Common.{◌≡◌, ◌*◌, ◌/◌, ◌%◌, ◌^◌, ◌<◌, ◌≤◌, ◌∙◌, ap, arith, length, subst}
use Rattle.std.specs.Prelude.{bit_and}
use Rattle.std.specs.Int.{bit_not, w64}
use Rattle.std.proofs.lemmas.Grind.{get_or_default_zero}
use Rattle.bal_base.specs.Bits.{Members, without_member}
use Rattle.bal_base.proofs.SetBits.{is_set-past, members-kept, members-less}
use Rattle.bal_base.proofs.bits.Bits.remove.Goals as goal

pub returns-then-i-len-clause-members : goal.returns-then-i-len-clause-members
returns-then-i-len-clause-members c =
    let bits = c.self.inside.words.items in
    let within : c.args.number / 64 < length bits = omega (arith, c.if-i-len.true, c.len.ensures, c.self.inside.words.ok.0) in
    let read = c.index_mut.ensures.value ∙ get_or_default_zero bits (c.args.number / 64) c.index_mut.result.now within in
    members-less bits c.args.number _ within (ap (λ w. bit_and w (bit_not w64 (1 * 2 ^ (c.args.number % 64) % 2 ^ 64))) read)
    ∙ ap (λ (p : Members). without_member c.args.number p.members) c.self.view_is

pub returns-else-i-len-clause-members : goal.returns-else-i-len-clause-members
returns-else-i-len-clause-members c =
    let bits = c.self.inside.words.items in
    let past : 64 * length bits ≤ c.args.number = omega (arith, c.if-i-len.false, c.len.ensures, c.self.inside.words.ok.0) in
    subst (λ (p : Members). p.members ≡ without_member c.args.number p.members) c.self.view_is (members-kept bits c.args.number (is_set-past bits c.args.number past))
