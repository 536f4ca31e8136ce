-- The lemmas of this crate that others cite. Its other modules of proofs are its own.

-- A region that keeps just the marked objects.
pub use Rattle.bal_sweep.proofs.Keeping.{swept-inside, swept-outside}
-- Numbers that pass a test, and starts that lie one after the other.
pub use Rattle.bal_sweep.proofs.Starts.{eqb-flip, filter-keeps, in-filter, in-front, laid-behind, laid-sum, sum-fewer}
-- Lists that lose some of their members.
-- Of the objects of a region the marked ones are left.
pub use Rattle.bal_sweep.proofs.Swept.{left-object}
pub use Rattle.bal_sweep.proofs.Vacant.{filter-twice, list-none}
