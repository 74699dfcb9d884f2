pub mod Areas
pub mod Tables
pub mod Sizes
pub mod Begun
pub mod Loaded
pub mod Worked
pub mod Examples
