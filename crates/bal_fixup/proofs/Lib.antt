mod Dirty
mod Everywhere
pub mod Lemmas
mod Objects
mod Placing
mod References
mod Regions
mod Slots
mod Stay
mod Words
