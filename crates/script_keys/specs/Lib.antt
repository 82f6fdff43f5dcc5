pub mod Names
pub mod Keys
pub mod Rings
pub mod Requests
pub mod Laws
