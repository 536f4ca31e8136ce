use Rattle.bal_table.proofs.Filled.{IsOccupied-filled, objects-back, objects-other}
use Rattle.bal_table.proofs.laws.a_region_that_is_put_back_has_its_objects.Goals as goal

pub returns : goal.returns
returns c = record {
  there = λ o l role a is may here. objects-back o is l role may a here;
  beside = λ o l role a other. objects-other o l role a other;
  occupied = λ o l role is land may. IsOccupied-filled o is l role may land;
}
