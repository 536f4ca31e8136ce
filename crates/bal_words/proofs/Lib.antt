pub mod Lemmas
mod Facts
mod Moves
mod Parts
mod Seen
