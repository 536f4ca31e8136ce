mod Ascending
mod GraphFacts
mod InOrder
pub mod Lemmas
mod MarkFacts
mod NameFacts
mod SearchFacts
mod StepFacts
mod Walks
