pub mod Book
pub mod Keyed
pub mod Done
pub mod Running
pub mod Rising
