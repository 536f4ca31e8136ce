mod Found
pub mod Lemmas
mod Planned
mod Sizes
mod Starts
