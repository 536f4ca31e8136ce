pub mod Plan
pub mod Planning
