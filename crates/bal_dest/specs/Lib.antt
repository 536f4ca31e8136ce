pub mod Buffers
pub mod Kept
pub mod Trials
