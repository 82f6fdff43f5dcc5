pub mod Standing
pub mod Showing
