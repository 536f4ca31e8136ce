-- The lemmas of this crate that others cite. Its other modules of proofs are its own.

-- The open region of an age, if it has one.
pub use Rattle.bal_dest.proofs.Packed.{open-last, open-none}
-- The regions after one was added, and after an object was placed.
pub use Rattle.bal_dest.proofs.Packed.{before-added, filled-other, filled-there, last-of-added, open-added}
