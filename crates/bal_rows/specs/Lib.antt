pub mod Causes
pub mod Plain
pub mod Texts
pub mod Trace
pub mod Words
