pub mod Inside
pub mod Cores
