pub mod Inside
pub mod Judged
pub mod Judging
pub mod Passing
pub mod Ready
