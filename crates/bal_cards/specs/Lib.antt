pub mod Between
pub mod Cards
pub mod Kept
