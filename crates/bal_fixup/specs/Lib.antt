pub mod Dirtied
pub mod Mended
pub mod Mending
pub mod Placed
