pub mod Collection
pub mod Evacuating
pub mod Mended
pub mod Mending
pub mod Outcome
