pub mod SeatRows
pub mod Histories
mod Keeping
mod Telling
pub mod Joining
