-- How objects are kept: they are always those of some board.
use Rattle.bal_rules.specs.Board.{Board}
use Rattle.bal_heap.specs.Objects.{AreOnBoard, Objects}
use Rattle.bal_heap.specs.declared.objects.Objects.TheInside.{Inside}

abbrev pub objects_by : Inside → Objects
objects_by a = record { table = a.table; cards = a.cards; roots = a.roots; made = a.made.list }

pub record AreKept (o : Objects) : Type 0 where
  pub board : Board
  pub on : AreOnBoard o board

abbrev pub Kept : Inside → Type 0
Kept a = AreKept (objects_by a)
