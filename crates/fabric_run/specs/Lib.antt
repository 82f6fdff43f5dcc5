pub mod Commands
pub mod Exits
pub mod Plain
pub mod Simulated
pub mod Statuses
pub mod Transfer
