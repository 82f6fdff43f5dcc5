pub mod Parameters
pub mod Digits
pub mod Chains
pub mod OneTime
pub mod Running
pub mod Abreast
