mod Covered
mod Few
mod Keeping
pub mod Lemmas
mod Names
mod Objects
mod Regions
mod Starts
mod Swept
mod Tail
mod Told
mod Trials
mod Vacant
