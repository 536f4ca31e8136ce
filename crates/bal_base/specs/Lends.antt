-- What a list with room reserved ends as, where its items were lent as a slice.
use Rattle.std.specs.Prelude.{List}
use Rattle.std.specs.Borrow.{Lends, Fml, RattleType, MutBor, Array}
use Rattle.bal_base.specs.Items.{Seq, with_list}
use Rattle.bal_base.specs.contracts.items.Items.{the_row}

module _ (T : RattleType) (it : MutBor (Seq T.Denot)) where
  -- once the borrow r ends, the items are those that r shows last
  abbrev pub lends_list : MutBor (List T.Denot) → Fml
  lends_list r = Lends (the_row T) (Array T 0) it r (with_list it.now)
