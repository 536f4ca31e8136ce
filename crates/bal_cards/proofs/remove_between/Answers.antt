use Rattle.std.proofs.Common.{◌≡◌, ◌∙◌, true, ap, subst, sym, arith}
use Rattle.bal_base.specs.Bits.{is_member, without_member}
use Rattle.bal_cards.proofs.Between.{outside-further, outside-next, outside-none}
use Rattle.bal_cards.proofs.remove_between.Goals as goal

pub loop-number-init : goal.loop-number-init
loop-number-init c = record { members = outside-none c.args.from c.args.bits.now.members; room = omega arith; from = omega arith; to = c.requires }

pub loop-number-preserved : goal.loop-number-preserved
loop-number-preserved c =
    let i = c.loop-number.invariant in
    let k = c.in-Some.number in
    let next = c.in-Some.ensures in
    record {
      members = c.remove.ensures.members ∙ (ap (without_member k) i.members
          ∙ outside-next c.args.from c.loop-number.at k c.args.bits.now.members i.from next.0.1
          (λ n among. next.0.2 n (subst (λ ms. is_member ms n ≡ true) (sym i.members) among)));
      room = omega (arith, i.room, c.remove.ensures.room);
      from = omega (arith, i.from, next.0.1);
      to = omega (arith, next.1);
    }

pub returns-clause-members : goal.returns-clause-members
returns-clause-members c =
    let i = c.loop-number.invariant in
    i.members ∙ outside-further c.args.from c.loop-number.at c.args.to c.args.bits.now.members i.from i.to
    (λ n among. c.in_default.ensures n (subst (λ ms. is_member ms n ≡ true) (sym i.members) among))
