use Rattle.std.proofs.Common.{◌∙◌, ℕ, List, length, refl, ap, arith, subst}
use Rattle.std.specs.Prelude.{IsTrue}
use Rattle.bal_base.specs.Bits.{is_member}
use Rattle.bal_base.proofs.Lemmas.{member-without}
use Rattle.bal_cards.specs.Cards.{Cards}
use Rattle.bal_rebuild.proofs.Cleaned.{none-left, rest-without, without-fewer}
use Rattle.bal_rebuild.proofs.clean_all.Goals as goal

pub loop-card-init : goal.loop-card-init
loop-card-init c = record { rest = refl; above = λ n among. omega arith }

pub loop-card-smaller : goal.loop-card-smaller
loop-card-smaller c =
    let card = c.in-Some.card in
    let now = ap (λ (x : Cards). x.list) c.clean_list.ensures in
    omega (arith, ap (λ (l : List ℕ). length l) now, without-fewer card c.loop-card.cards.list c.in-Some.ensures.next.0)

pub loop-card-preserved : goal.loop-card-preserved
loop-card-preserved c =
    let i = c.loop-card.invariant in
    let card = c.in-Some.card in
    let now = ap (λ (x : Cards). x.list) c.clean_list.ensures in
    record {
      rest = rest-without c.args.cards.now c.loop-card.cards c.clean_list.new.self card i.rest c.clean_list.ensures;
      above = λ n among.
          let before = ((member-without card n c.loop-card.cards.list).0 (subst (λ (l : List ℕ). IsTrue (is_member l n)) now among)).1 in
          c.in-Some.ensures.next.2 n before (i.above n before);
    }

pub returns : goal.returns
returns c =
    let i = c.loop-card.invariant in
    i.rest ∙ ap (λ (l : List ℕ). record c.args.cards.now { list = l }) (none-left c.loop-card.from c.loop-card.cards.list i.above c.in_default.ensures.next)
