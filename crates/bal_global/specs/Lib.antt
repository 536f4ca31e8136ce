pub mod Cleared
pub mod Global
