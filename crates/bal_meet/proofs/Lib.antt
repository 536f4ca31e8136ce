mod Changes
mod Freeing
mod Lists
mod Moving
mod Noting
mod Objects
mod Ordered
mod Present
mod Reading
mod Roots
mod Ways
mod Writing
pub mod Lemmas
