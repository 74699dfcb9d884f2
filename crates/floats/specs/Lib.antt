pub mod Brackets
pub mod Fields
