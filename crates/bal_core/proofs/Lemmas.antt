-- The lemmas of this crate that others cite. Its other modules of proofs are its own.

-- One that passes a test has a place in its list, and copies of one address are one decision.
pub use Rattle.bal_core.proofs.Allowed.{any-at, copied-marked, same_Copied}
-- The invariant after an event, and after a list of them.
pub use Rattle.bal_core.proofs.Always.{core-all, core-applies}
-- A pool has no more regions than the heap, and no region is filled beyond its words.
pub use Rattle.bal_core.proofs.Bounds.{few-regions, used-within}
-- A state at rest shows a finished evacuation.
pub use Rattle.bal_core.proofs.Evacuated.{evacuated}
-- Places in lists that grow at their end.
pub use Rattle.bal_core.proofs.Lists.{at-kept, at-last, at-push-cases}
-- The world in which an evacuation begins, and that the invariant holds there.
pub use Rattle.bal_core.proofs.StartFacts.{start-core, start-is-world}
-- What was decided stays.
pub use Rattle.bal_core.proofs.Stays.{stays-all}
