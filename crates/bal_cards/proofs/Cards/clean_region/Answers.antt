use Rattle.bal_cards.proofs.Sets.{set-outside}
use Rattle.bal_cards.proofs.Cards.clean_region.Goals as goal

pub invariant_of-self : goal.invariant_of-self
invariant_of-self c = record {
  list = set-outside _ _ _ _ c.self.invariant.list c.clean_cards.ensures.members c.clean_cards.ensures.room;
  mark = set-outside _ _ _ _ c.self.invariant.mark c.clean_cards-2.ensures.members c.clean_cards-2.ensures.room;
}
