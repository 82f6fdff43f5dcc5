pub mod Batches
pub mod Holding
