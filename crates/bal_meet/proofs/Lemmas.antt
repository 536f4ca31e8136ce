-- The lemmas of this crate that others cite. Its other modules of proofs are its own.

-- What is changed in a heap, and which board it meets then.
pub use Rattle.bal_meet.proofs.Changes.{empty-meets, global-meets, next-met, number-meets, placed-meets, reference-meets, register-meets}
-- What is read from the words is what the plain state has.
pub use Rattle.bal_meet.proofs.Reading.{global-decoded, number-decoded, numbers-decoded, object-shown, reference-decoded, references-decoded, register-decoded}
pub use Rattle.bal_meet.proofs.Noting.{note-legal}
-- Objects are moved or removed, and which board the heap meets then.
pub use Rattle.bal_meet.proofs.Moving.{AreMovedPlaced}
-- Lists of distinct names with the same ones are as long as each other.
pub use Rattle.bal_meet.proofs.Ordered.{same-long}
-- The names that roots hold.
pub use Rattle.bal_meet.proofs.Ways.{roots-named}
