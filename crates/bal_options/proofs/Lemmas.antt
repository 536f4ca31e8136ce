-- The lemmas of this crate that others cite. Its other modules of proofs are its own.

-- The limits of each configuration of a command line.
pub use Rattle.bal_options.proofs.LimitFacts.{within-limits}
-- A whole command line.
pub use Rattle.bal_options.proofs.LineFacts.{one-config}
