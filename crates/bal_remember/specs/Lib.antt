pub mod Kept
pub mod Remembered
