pub mod Calls
pub mod Counts
pub mod Forgetting
pub mod Heard
pub mod Pleading
pub mod Plights
