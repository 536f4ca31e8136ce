-- The lemmas of this crate that others cite. Its other modules of proofs are its own.

-- Names in order.
pub use Rattle.bal_model.proofs.Ascending.{all-names-ascend, ascending-after, ascending-filter, ascending-map-filter, ascending-rest, before-cases, ends-ascend, reachable-ascends}
-- Sorted names ascend if no two are one, and two ascending lists with the same names are one.
pub use Rattle.bal_model.proofs.InOrder.{moved-distinct, pair-before, same-flips, same-names, sorted-ascend}
-- What the plain step never does, and how many objects it makes.
pub use Rattle.bal_model.proofs.StepFacts.{graph_after-step, made_by-start, made_by-step, not-full, one_for}
-- Walks, and the list of their ends: it has exactly the names that walks end at.
pub use Rattle.bal_model.proofs.Walks.{at-ends, ends-are-walked, ends-complete, ends-filter, ends-sound, from-filter, in-filter, is_among-head, is_among-tail, passes-some, same_name-eq, same_name-refl, walk-begins, walk-goes}
