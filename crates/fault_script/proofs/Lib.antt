pub mod Cuts
pub mod Declared
pub mod Stamps
