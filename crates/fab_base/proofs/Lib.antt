pub mod Bytes
pub mod Correct
pub mod Counting
pub mod Digests
pub mod Entries
pub mod Listed
pub mod Stamps
pub mod Tests
