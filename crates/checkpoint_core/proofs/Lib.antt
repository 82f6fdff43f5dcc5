pub mod Counting
pub mod Firsts
pub mod Keeping
pub mod Ranking
