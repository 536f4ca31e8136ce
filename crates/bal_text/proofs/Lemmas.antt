-- The lemmas of this crate that others cite. Its other modules of proofs are its own.

-- Texts, line by line.
pub use Rattle.bal_text.proofs.TextFacts.{one_journal}
