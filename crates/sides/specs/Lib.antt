pub mod Sides
pub mod Required
