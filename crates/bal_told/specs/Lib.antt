pub mod OnBoard
pub mod Telling
pub mod Whole
pub mod Worked
