-- How the cards that were written are kept: as two sets of bits.
use Rattle.std.specs.Prelude.{◌≤◌}
use Rattle.bal_base.specs.Bits.{Members}
use Rattle.bal_layout.specs.Addresses.{cards_of}
use Rattle.bal_layout.specs.Shape.{Shape}
use Rattle.bal_cards.specs.Cards.{AreWithin, Cards}
use Rattle.bal_cards.specs.declared.Cards.TheInside.{Inside}

abbrev pub cards_in : Inside → Cards
cards_in a = record { shape = a.geometry; list = a.list.members; mark = a.mark.members }

-- the set's members are cards of the heap, and it has room for all of these
pub record IsSetOf (s : Shape) (bits : Members) : Type 0 where
  pub cards : AreWithin s bits.members
  pub room : cards_of s ≤ bits.room

pub record IsKept (a : Inside) : Type 0 where
  pub list : IsSetOf a.geometry a.list
  pub mark : IsSetOf a.geometry a.mark
