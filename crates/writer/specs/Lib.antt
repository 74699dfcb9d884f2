pub mod Required
pub mod Writing
