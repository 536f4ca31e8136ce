pub mod Lemmas
mod Copied
mod Deciding
mod Drawn
mod Ended
mod Laid
mod Lands
mod Lists
mod NextFit
mod Order
mod Split
mod Steps
mod Trials
mod Tried
mod UnderWay
mod Walk
