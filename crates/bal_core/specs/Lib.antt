pub mod Core
pub mod Finished
pub mod Rest
pub mod Start
pub mod Steps
pub mod Trials
pub mod World
