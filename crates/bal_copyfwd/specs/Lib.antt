pub mod Covered
pub mod Filled
pub mod Moving
pub mod Places
pub mod Returned
pub mod States
