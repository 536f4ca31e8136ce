pub mod Moved
pub mod Paths
pub mod Pieces
pub mod Shown
pub mod Things
