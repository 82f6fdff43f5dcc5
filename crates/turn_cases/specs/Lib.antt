pub mod Counting
pub mod Crews
