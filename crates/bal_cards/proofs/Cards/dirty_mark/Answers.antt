use Rattle.std.proofs.Common.{◌<◌, subst, sym}
use Rattle.bal_layout.specs.Addresses.{cards_of}
use Rattle.bal_cards.specs.Cards.{Cards}
use Rattle.bal_cards.proofs.Sets.{set-more}
use Rattle.bal_cards.proofs.Cards.dirty_mark.Goals as goal

pub invariant_of-self : goal.invariant_of-self
invariant_of-self c = record {
  list = c.self.invariant.list;
  mark = set-more _ _ _ _ c.self.invariant.mark (subst (λ (v : Cards). c.args.card < cards_of v.shape) (sym c.self.view_is) c.requires) c.insert.ensures.members c.insert.ensures.room;
}
