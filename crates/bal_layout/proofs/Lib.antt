pub mod Lemmas
mod Cards
mod Freed
mod Headers
mod Shapes
