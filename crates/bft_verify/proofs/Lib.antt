pub mod Cutting
pub mod Soundness
