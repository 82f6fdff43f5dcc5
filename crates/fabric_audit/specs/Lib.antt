pub mod Stamps
pub mod Counts
pub mod Still
pub mod Makers
pub mod Forgeries
pub mod Meeting
pub mod Journals
