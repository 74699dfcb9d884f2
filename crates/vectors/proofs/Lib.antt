pub mod Values
pub mod Showing
pub mod Answers
