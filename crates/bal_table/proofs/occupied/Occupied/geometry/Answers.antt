use Rattle.std.proofs.Common.{subst}
use Rattle.bal_table.specs.Occupied.{IsOccupied}
use Rattle.bal_table.proofs.Hollow.{IsOccupied-kept}
use Rattle.bal_table.proofs.occupied.Occupied.geometry.Goals as goal

pub returns-clause-limits : goal.returns-clause-limits
returns-clause-limits c = subst IsOccupied c.self.view_is (IsOccupied-kept c.self.inside c.self.invariant)
