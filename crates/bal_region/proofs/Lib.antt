pub mod Lemmas
mod Changed
mod Ends
mod Finds
mod Lands
mod Lists
mod Moving
mod Padded
mod Regions
mod Seen
mod Slid
mod SlidStarts
