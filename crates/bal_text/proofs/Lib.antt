pub mod Lemmas
mod ItemFacts
mod LineFacts
mod LineParts
mod NumberFacts
mod Options
mod OrderFacts
mod PieceFacts
mod Readings
mod RowFacts
mod TextFacts
mod WriterFacts
