pub mod Endings
pub mod Limits
pub mod Simulations
pub mod Transfers
