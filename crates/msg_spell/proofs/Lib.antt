pub mod Joining
pub mod Rising
