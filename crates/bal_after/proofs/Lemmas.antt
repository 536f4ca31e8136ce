-- The lemmas of this crate that others cite. Its other modules of proofs are its own.

-- What the journal's list has of each object, and what is lost.
pub use Rattle.bal_after.proofs.Decided.{IsDecided, among-kept, each-decided, kept-among, lost-gone, lost-kept, lost-outside, one-decision}
-- The marked objects of a region, and sums over names that are the same in another order.
pub use Rattle.bal_after.proofs.Marked.{none-marked, words-marked}
pub use Rattle.bal_after.proofs.Members.{distinct-named, sum-members}
-- Where each object lies afterwards.
pub use Rattle.bal_after.proofs.Moves.{moves-name, moves-others, moves-survivor}
-- Placed objects by name.
pub use Rattle.bal_after.proofs.Places.{found-passes, passes-found, placed-name}
-- What each region is afterwards.
pub use Rattle.bal_after.proofs.Regions.{emptied-marked, region-drawn, region-other}
