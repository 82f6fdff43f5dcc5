pub mod Playing
pub mod Turns
pub mod Histories
