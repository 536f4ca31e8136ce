pub mod Lemmas
mod Finding
mod Placing
mod Wants
