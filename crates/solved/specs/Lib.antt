pub mod Solved
pub mod Stopped
