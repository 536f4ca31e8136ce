mod Apart
mod FoundAfter
mod Led
mod Paths
mod Room
mod Steps
