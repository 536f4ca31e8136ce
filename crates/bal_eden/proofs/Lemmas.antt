-- The lemmas of this crate that others cite. Its other modules of proofs are its own.

-- What an allocation makes of a table.
pub use Rattle.bal_eden.proofs.Placing.{allocated-shape}
