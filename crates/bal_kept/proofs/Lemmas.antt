-- The lemmas of this crate that others cite. Its other modules of proofs are its own.

-- What holds an object from outside.
pub use Rattle.bal_kept.proofs.Held.{word-leads}
-- References by words and by numbers.
pub use Rattle.bal_kept.proofs.Leads.{word-points}
-- Items of a list by their places.
pub use Rattle.bal_kept.proofs.Lists.{at-contains, contains-at}
-- The objects of the chosen regions, by their numbers.
pub use Rattle.bal_kept.proofs.Named.{IsGiven, Numbered, given, number, number-once, numbered}
