pub mod Seats
pub mod Feeding
mod Named
mod Tagged
mod Fair
pub mod Pairs
mod Cuts
mod Quiets
mod Given
pub mod Fleets
pub mod Taken
mod Alone
