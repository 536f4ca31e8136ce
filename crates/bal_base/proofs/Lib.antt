pub mod Lemmas
mod Masked
mod Members
mod Numbers
mod Padded
mod SetBits
mod TextFacts
