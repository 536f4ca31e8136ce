use Rattle.std.proofs.Common.{◌≡◌}
use Rattle.bal_barrier.specs.Flush.{LeadToObjects}
use Rattle.bal_rebuild.proofs.tests.all_eden.Given as goal

abbrev pub invariant-loop : goal.invariant-loop
invariant-loop l = (l.table.shape ≡ l.fn.geometry) × LeadToObjects l.table
