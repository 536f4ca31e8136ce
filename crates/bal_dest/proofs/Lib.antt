pub mod Lemmas
mod Committed
mod Gaps
mod Held
mod Packed
mod Places
