pub mod Examples
pub mod Passing
pub mod Counting
pub mod Meanings
pub mod Going
pub mod Fronts
pub mod Whole
