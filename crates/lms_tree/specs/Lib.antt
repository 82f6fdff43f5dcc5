pub mod Heights
pub mod PublicKeys
pub mod Tree
pub mod Keys
pub mod Signatures
pub mod Verdict
pub mod Paths
