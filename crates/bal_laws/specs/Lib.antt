pub mod Refused
pub mod Regions
pub mod Replay
pub mod Replies
pub mod Worked
pub mod WorkedGlobal
pub mod WorkedMore
pub mod WorkedPartial
