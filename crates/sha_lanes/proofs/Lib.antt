pub mod QuadLemmas
pub mod RoundLemmas
pub mod HashLemmas
pub mod DigestLemmas
mod ChMaj
mod Rotations
