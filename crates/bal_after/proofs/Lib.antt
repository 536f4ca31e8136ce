mod Decided
pub mod Lemmas
mod Marked
mod Members
mod Moves
mod Places
mod Regions
mod Worked
