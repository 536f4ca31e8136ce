mod Cleaned
mod Dirtied
mod Emptied
mod OneSlot
mod Rebuilt
