pub mod Finding
pub mod Running
pub mod Storing
pub mod Gathered
pub mod Knowing
pub mod Places
pub mod ByRound
