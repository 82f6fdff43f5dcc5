pub mod Pairs
pub mod Reserving
pub mod Sorting
pub mod Steps
