pub mod Opened
pub mod Proposals
pub mod Budgets
