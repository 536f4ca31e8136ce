pub mod Course
pub mod Going
pub mod Order
pub mod Plan
pub mod Trials
