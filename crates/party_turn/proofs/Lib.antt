pub mod Entering
pub mod Legals
mod Traces
