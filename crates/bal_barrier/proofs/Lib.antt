pub mod Lemmas
mod Blank
mod Covering
mod Flushed
mod Freeing
mod Fresh
mod Notes
mod Numbers
mod Order
mod References
mod Targets
