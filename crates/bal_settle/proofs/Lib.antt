mod Ascending
mod Chosen
mod Estimates
mod Kept
mod Older
mod Parts
mod Settling
mod Whole
