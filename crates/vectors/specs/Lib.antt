pub mod Least
pub mod VectorTest
pub mod LeastShares
