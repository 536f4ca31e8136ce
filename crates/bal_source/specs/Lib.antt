pub mod Buffer
pub mod Causes
pub mod Memory
pub mod Streams
pub mod Waiting
pub mod Wishes
