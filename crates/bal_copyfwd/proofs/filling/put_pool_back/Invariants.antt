use Rattle.std.proofs.Common.{◌≡◌, []}
use Rattle.std.specs.Vec.Iter.{into_iter_items}
use Rattle.bal_copyfwd.specs.Filled.{MayFill, all_back, with_all_filled}
use Rattle.bal_copyfwd.proofs.filling.put_pool_back.Given as goal

-- what is left may be put back, and makes the same table
abbrev pub invariant-loop-region : goal.invariant-loop-region
invariant-loop-region l = record {
  may : MayFill l.occupied (all_back [] (into_iter_items l.region-iterator));
  table : with_all_filled (all_back [] (into_iter_items l.region-iterator)) l.occupied.table ≡ with_all_filled (all_back [] l.fn.pool.items) l.fn.occupied.table;
}
