pub mod Pool
pub mod Act
pub mod Passing
pub mod Required
pub mod Listed
pub mod Spelled
pub mod Parts
