-- The lemmas of this crate that others cite. Its other modules of proofs are its own.

-- Members of a set as the numbers of a range that pass a test, and what a change makes of them.
pub use Rattle.bal_base.proofs.Members.{among-cases, among-first, among-later, filter-ascends, member-below, member-passes, member-there, member-with, member-without, with-first, with-last, with-later}
-- What a number's spelling is, as a reader of digits meets it.
pub use Rattle.bal_base.proofs.Numbers.{IsSpelling-from_spelled, leading-is}
-- Words that were written, with the zeros that stand after them.
pub use Rattle.bal_base.proofs.Padded.{drop-padded, get_or-padded, grown-within, length-grown, length-padded, padded-grown, padded-set, part-padded, zeros-joined}
-- How pieces of a text follow each other.
pub use Rattle.bal_base.proofs.TextFacts.{writes-then}
-- Numbers of a range ascend.
pub use Rattle.bal_base.proofs.Members.{filter-ascends}
