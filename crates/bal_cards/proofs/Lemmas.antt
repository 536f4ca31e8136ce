-- The lemmas of this crate that others cite. Its other modules of proofs are its own.

-- Members of a set that pass a test.
pub use Rattle.bal_cards.proofs.Between.{member-filtered}
