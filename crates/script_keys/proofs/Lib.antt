pub mod Listing
pub mod Rows
pub mod Signatures
pub mod Wishes
pub mod Sounds
