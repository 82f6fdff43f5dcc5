pub mod Outs
pub mod Machines
mod Noting
mod Within
mod Missing
