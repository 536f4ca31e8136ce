-- The lemmas of this crate that others cite. Its other modules of proofs are its own.

-- How bytes that wait after written ones follow each other to the sink.
pub use Rattle.bal_source.proofs.BufferFacts.{passes-none}
