pub mod Digests
pub mod Fields
pub mod Limits
pub mod Quorums
pub mod Roster
pub mod Table
