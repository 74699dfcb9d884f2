pub mod Sums
pub mod Halving
pub mod Lent
pub mod Explaining
pub mod Required
pub mod Running
pub mod Mending
