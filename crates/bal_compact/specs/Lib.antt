pub mod Compacted
pub mod Packing
pub mod Trials
