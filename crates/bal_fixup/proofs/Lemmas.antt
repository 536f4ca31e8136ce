-- The lemmas of this crate that others cite. Its other modules of proofs are its own.

-- References that are mended place by place: it is a table still, each object starts where it did, and other words stay.
pub use Rattle.bal_fixup.proofs.Placing.{all-mended}
