use Rattle.std.proofs.Common.{◌≡◌}
use Rattle.bal_sweep.proofs.tests.all_dirty.Given as goal

abbrev pub invariant-loop-card : goal.invariant-loop-card
invariant-loop-card l = l.cards.shape ≡ l.fn.geometry
