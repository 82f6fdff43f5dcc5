pub mod Links
pub mod Producers
pub mod Rule
pub mod Queues
