pub mod World
pub mod Safety
pub mod Examples
pub mod Signing
pub mod LoneWorld
pub mod BusyWorld
pub mod PairWorld
