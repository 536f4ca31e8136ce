-- The lemmas of this crate that others cite. Its other modules of proofs are its own.

-- What two readings of the same bytes have in common.
pub use Rattle.bal_rows.proofs.LawFacts.{not-both, one_bad_record}
