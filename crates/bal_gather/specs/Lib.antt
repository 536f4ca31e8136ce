pub mod Gathered
pub mod Kept
pub mod Lent
pub mod Numbers
pub mod Objects
