-- The lemmas of this crate that others cite. Its other modules of proofs are its own.

-- The objects of one region, found one after the other: none starts between them.
pub use Rattle.bal_plan.proofs.Found.{count-found, found-behind, found-inside, found-object, none-behind, none-between, none-left, region-ends, region-here, region-inside, starts-found}
-- What an object of a table takes, and where it lies.
pub use Rattle.bal_plan.proofs.Sizes.{IsSized, ends-before, read-words, sized}
-- The starts of a table's objects: which they are, that they ascend, and one more of them. Which objects go to a region, and
-- how many words they take there.
pub use Rattle.bal_plan.proofs.Starts.{filter-member, filter-none, filter-same, into-are, into-gap, into-next, into-other, into-same, listed-object, map-same, member-filter, object-listed, starts-are, starts-ascend, starts-few, starts-fewer, starts-gap, starts-next, starts-split, words-next, words-other, words-same}
