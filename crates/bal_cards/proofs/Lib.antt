pub mod Lemmas
mod Between
mod Sets
