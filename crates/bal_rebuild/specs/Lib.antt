pub mod Crossings
pub mod Rebuilt
