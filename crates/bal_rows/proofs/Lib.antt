pub mod Lemmas
mod CauseFacts
mod EitherFacts
mod LawFacts
mod LimitFacts
mod PlainFacts
mod RowFacts
mod TraceFacts
