pub mod Text
pub mod Report
pub mod Telling
pub mod Walking
pub mod Replayed
pub mod Printed
