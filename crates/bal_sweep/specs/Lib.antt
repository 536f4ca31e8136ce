pub mod Dead
pub mod Freeing
pub mod InPlace
pub mod Sweep
pub mod Sweeping
pub mod Trials
