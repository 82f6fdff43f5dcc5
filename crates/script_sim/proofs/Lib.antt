mod Starting
pub mod Ready
