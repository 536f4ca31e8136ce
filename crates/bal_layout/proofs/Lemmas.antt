-- The lemmas of this crate that others cite. Its other modules of proofs are its own.

-- What each region is after some were freed.
pub use Rattle.bal_layout.proofs.Freed.{freed-is, length-freed}
-- What a header's two words are taken apart into, and put together from.
pub use Rattle.bal_layout.proofs.Headers.{header-of_words}
-- The region of a card.
pub use Rattle.bal_layout.proofs.Cards.{card-region}
