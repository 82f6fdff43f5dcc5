pub mod Acting
pub mod Entering
pub mod Keeping
pub mod Leaving
pub mod Logs
pub mod Replayed
pub mod Sending
