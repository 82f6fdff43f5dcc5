pub mod Items
pub mod Letters
pub mod Acts
pub mod Ordering
pub mod Feeding
pub mod Moving
pub mod Sending
