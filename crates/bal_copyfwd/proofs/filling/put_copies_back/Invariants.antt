use Rattle.std.proofs.Common.{◌≡◌, [], None, length}
use Rattle.bal_copyfwd.specs.Filled.{MayFill, all_back, with_all_filled}
use Rattle.bal_copyfwd.proofs.filling.put_copies_back.Given as goal

-- what is left may be put back, and makes the same table
abbrev pub invariant-loop-age : goal.invariant-loop-age
invariant-loop-age l = record {
  idle : l.evacuated.buffers.reserved ≡ None;
  may : MayFill l.occupied (all_back l.evacuated.buffers.regions l.evacuated.spares);
  table : with_all_filled (all_back l.evacuated.buffers.regions []) l.occupied.table ≡ with_all_filled (all_back l.fn.evacuated.buffers.regions []) l.fn.occupied.table;
  spares : l.evacuated.spares ≡ l.fn.evacuated.spares;
}

abbrev pub decreases-loop-age : goal.decreases-loop-age
decreases-loop-age l = length l.evacuated.buffers.regions
