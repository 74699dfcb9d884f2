pub mod Accepted
pub mod Margin
pub mod Theorems
