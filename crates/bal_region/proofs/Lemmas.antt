-- The lemmas of this crate that others cite. Its other modules of proofs are its own.

-- What a change does to a region and to its objects.
pub use Rattle.bal_region.proofs.Changed.{IsLand-placed, IsLand-removed, IsLand-written, header-placed, none-at_used, object-placed, object-removed}
-- Where the last object ends.
pub use Rattle.bal_region.proofs.Ends.{IsLand-cut, cut-last, cut-less, cut-within}
-- Objects that lie one after the other.
pub use Rattle.bal_region.proofs.Lands.{header-same, laid-each, size-two}
-- Lists of words of which some are written, and parts of them.
pub use Rattle.bal_region.proofs.Lists.{length-blank, length-overwrite, overwrite-before}
-- A region's objects, as their words and offsets say.
pub use Rattle.bal_region.proofs.Seen.{IsBehindHeaders-inside, IsObject-blank, IsObject-seen, header-seen, holder-is, object-outside, object-seen, object-starts, object-there, object-written, objects-apart, size-header, size-seen}
-- What a region is once one of its objects is moved down.
pub use Rattle.bal_region.proofs.Slid.{IsLand-slid, header-moved, length-slid, object-beside, object-free, object-here, object-left, start-slid}
-- The first object from an offset on.
pub use Rattle.bal_region.proofs.Seen.{first-is, first-none}
