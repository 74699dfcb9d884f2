pub mod Registers
pub mod Area
pub mod Running
pub mod Bus
pub mod Required
