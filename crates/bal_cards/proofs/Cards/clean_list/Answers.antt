use Rattle.bal_cards.proofs.Sets.{set-without}
use Rattle.bal_cards.proofs.Cards.clean_list.Goals as goal

pub invariant_of-self : goal.invariant_of-self
invariant_of-self c = record {
  list = set-without _ _ _ _ c.self.invariant.list c.remove.ensures.members c.remove.ensures.room;
  mark = c.self.invariant.mark;
}
