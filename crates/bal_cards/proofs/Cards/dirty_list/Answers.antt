use Rattle.std.proofs.Common.{◌<◌, subst, sym}
use Rattle.bal_layout.specs.Addresses.{cards_of}
use Rattle.bal_cards.specs.Cards.{Cards}
use Rattle.bal_cards.proofs.Sets.{set-more}
use Rattle.bal_cards.proofs.Cards.dirty_list.Goals as goal

pub invariant_of-self : goal.invariant_of-self
invariant_of-self c = record {
  list = set-more _ _ _ _ c.self.invariant.list (subst (λ (v : Cards). c.args.card < cards_of v.shape) (sym c.self.view_is) c.requires) c.insert.ensures.members c.insert.ensures.room;
  mark = c.self.invariant.mark;
}
