pub mod Lemmas
mod Held
mod Leads
mod Listed
mod Lists
mod Named
mod OnBoard
mod Walks
mod Worlds
