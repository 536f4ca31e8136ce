use Rattle.std.proofs.Common.{◌≡◌, [], length}
use Rattle.bal_copyfwd.specs.Filled.{MayFill, all_back, with_all_filled}
use Rattle.bal_copyfwd.proofs.filling.put_spares_back.Given as goal

-- what is left may be put back, and makes the same table
abbrev pub invariant-loop-region : goal.invariant-loop-region
invariant-loop-region l = record {
  may : MayFill l.occupied (all_back [] l.evacuated.spares);
  table : with_all_filled (all_back [] l.evacuated.spares) l.occupied.table ≡ with_all_filled (all_back [] l.fn.evacuated.spares) l.fn.occupied.table;
}

abbrev pub decreases-loop-region : goal.decreases-loop-region
decreases-loop-region l = length l.evacuated.spares
