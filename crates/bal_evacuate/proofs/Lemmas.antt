-- The lemmas of this crate that others cite. Its other modules of proofs are its own.

-- The drawn regions by their places.
pub use Rattle.bal_evacuate.proofs.Drawn.{drawn-at, drawn-is, length-drawn}
-- Copies lie where they were copied to, and nothing else does.
pub use Rattle.bal_evacuate.proofs.Laid.{copies-age, copies-land, copy-is, copy-only, copy-there}
-- What copies make of a region: its number, and what is given out.
pub use Rattle.bal_evacuate.proofs.Lands.{number-kept, used-filled}
