pub mod Coverage
pub mod Flush
