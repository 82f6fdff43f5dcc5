pub mod Tellings
pub mod Walking
pub mod Longest
pub mod Replicas
pub mod Whole
pub mod Printed
