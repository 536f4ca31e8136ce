pub mod Lemmas
mod ConfigFacts
mod GivenFacts
mod LimitFacts
mod LineFacts
mod ReadFacts
mod SettingFacts
mod WordFacts
