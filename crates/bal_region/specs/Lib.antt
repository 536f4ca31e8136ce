pub mod Changes
pub mod Land
pub mod Region
