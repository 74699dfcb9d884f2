pub mod Sizes
pub mod LeastSums
