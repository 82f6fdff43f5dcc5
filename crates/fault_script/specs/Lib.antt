pub mod Asking
pub mod Checks
pub mod Drafts
pub mod Fields
pub mod Lines
pub mod Scripts
pub mod Settings
pub mod Words
