pub mod Grammar
pub mod Lines
pub mod Readings
pub mod Texts
pub mod Writing
