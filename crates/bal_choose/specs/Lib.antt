pub mod Choice
pub mod Rows
