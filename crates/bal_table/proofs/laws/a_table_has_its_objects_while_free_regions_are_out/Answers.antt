use Rattle.std.proofs.Common.{refl}
use Rattle.bal_table.specs.Occupied.{vacated}
use Rattle.bal_table.proofs.Lifted.{things-same}
use Rattle.bal_table.proofs.Vacant.{IsOccupied-vacated, free-numbered, objects-vacated, vacant}
use Rattle.bal_table.proofs.laws.a_table_has_its_objects_while_free_regions_are_out.Goals as goal

pub returns : goal.returns
returns c = record {
  objects = λ t a table. objects-vacated t table a;
  things = λ t a table. things-same t (vacated t) a (objects-vacated t table a);
  states = λ t. (refl, refl);
  occupied = λ t table. IsOccupied-vacated t table;
  vacant = λ t q table among. let is = free-numbered t table q among in vacant t table q is.0 is.1;
}
