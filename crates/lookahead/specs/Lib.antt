pub mod Pairs
pub mod LeastSums
