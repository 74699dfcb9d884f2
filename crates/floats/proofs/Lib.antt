pub mod Values
pub mod Product
pub mod Next
pub mod Fields
pub mod Range
pub mod Meaning
mod Examples
