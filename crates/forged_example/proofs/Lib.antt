mod Hearings
mod Leavings
