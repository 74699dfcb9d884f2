pub mod Scaling
pub mod Scratch
