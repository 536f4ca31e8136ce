-- The lemmas of this crate that others cite. Its other modules of proofs are its own.

-- Facts of names, numbers and lists.
pub use Rattle.bal_words.proofs.Facts.{map-replicated, mapped-from, same-or, same_name-or, same_parts, there}
-- What a heap shows once its objects were moved.
pub use Rattle.bal_words.proofs.Moves.{roots-moved, shows-moved, stood-before}
-- What the words of one object say once one of them is written.
pub use Rattle.bal_words.proofs.Parts.{header-kept, piece-blank, piece-numbered, piece-referred}
-- What a heap shows once one of its objects is written or made.
pub use Rattle.bal_words.proofs.Seen.{roots-null, roots-placed, roots-set, roots-written, shows-blank, shows-empty, shows-numbered, shows-referred, updated-cases}
