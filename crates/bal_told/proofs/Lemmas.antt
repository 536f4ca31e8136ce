-- The lemmas of this crate that others cite. Its other modules of proofs are its own.

-- What one worker leaves that works alone is all that the laws ask for.
pub use Rattle.bal_told.proofs.Alone.{drawn-for, whole-alone}
-- The words of the copies in a region are those that its worker put there, and its age is that of the draw.
pub use Rattle.bal_told.proofs.Copies.{words-copied}
pub use Rattle.bal_told.proofs.Drawn.{age-drawn, not-drawn}
-- What was decided can be told, and once it is sorted it is the journal's list.
pub use Rattle.bal_told.proofs.Lines.{told-alone, told-in-order, told-more, tellable}
-- It is legal by the rules.
pub use Rattle.bal_told.proofs.Packing.{is-packing}
pub use Rattle.bal_told.proofs.Parts.{is-partial}
-- Items at their places, numbers of which no two are one, and sums over what was made of the items.
pub use Rattle.bal_told.proofs.Lists.{each-passes, sum-of_map, sum-same}
pub use Rattle.bal_told.proofs.Numbers.{at-in, in-each}
-- Each of the journal's list is a survivor, with a name of the evacuation, and each survivor is in the list.
pub use Rattle.bal_told.proofs.Survivors.{IsSurvivor, each-survivor, is-told, name-at, object-of}
-- A copy of the list is one of the region that its worker drew.
pub use Rattle.bal_told.proofs.Copies.{IsCopyIn, copies_into, each-copy}
