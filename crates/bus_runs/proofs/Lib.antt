pub mod Blocks
pub mod Sizes
pub mod Line
pub mod RunArea
pub mod Ticks
pub mod Begun
pub mod Runs
