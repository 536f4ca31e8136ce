mod Ages
mod Alone
mod Buffers
mod Causes
mod Copies
mod Drawn
mod Holes
pub mod Lemmas
mod Lines
mod Lists
mod Numbers
mod Packing
mod Parts
mod Pool
mod Survivors
mod Worked
