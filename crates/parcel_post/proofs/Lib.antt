pub mod Numbered
mod Raising
mod Ending
mod Tracked
