pub mod Posting
pub mod Ticking
pub mod Walking
