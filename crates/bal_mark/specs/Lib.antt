pub mod Closing
pub mod Found
pub mod Marking
