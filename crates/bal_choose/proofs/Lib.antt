mod Chosen
mod Distinct
mod Found
mod OfHeap
mod Ranks
