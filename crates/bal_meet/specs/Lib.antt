pub mod Decode
pub mod Heap
